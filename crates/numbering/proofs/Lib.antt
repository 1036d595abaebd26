pub mod Kept
pub mod Slots
pub mod Renumbering
pub mod Lines
pub mod Files
pub mod Logs
