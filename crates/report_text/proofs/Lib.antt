pub mod RowLaws
pub mod Writes
pub mod PlaceLaws
pub mod AnswerLaws
