pub mod Keys
pub mod NextLaws
mod Entries
pub mod EntryLaws
pub mod WriteLaws
pub mod BuildLaws
