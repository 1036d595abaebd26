pub mod Passed
pub mod Results
pub mod States
pub mod Fresh
pub mod PaperRule
pub mod Questions
pub mod Planes
pub mod Samples
