pub mod OrderLaws
pub mod NewestLaws
pub mod ChoiceLaws
pub mod Rings
