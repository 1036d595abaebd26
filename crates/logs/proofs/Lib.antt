pub mod Checks
pub mod Files
