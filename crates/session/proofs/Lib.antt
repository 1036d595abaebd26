pub mod LineLaws
pub mod Demand
pub mod Samples
