pub mod NumberLaws
pub mod TurnLaws
