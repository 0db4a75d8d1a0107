pub mod EntryText
pub mod RowText
pub mod Report
pub mod AnswerFound
