pub mod Arrays
pub mod WellFormed
pub mod Form
pub mod Sizes
pub mod Planes
