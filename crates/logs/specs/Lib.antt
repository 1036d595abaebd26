pub mod Clauses
pub mod Files
