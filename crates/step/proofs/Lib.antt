pub mod StepLaws
pub mod Routines
