mod HexText
mod Rows
pub mod SavedForms
mod SavedLaws
mod Merged
mod Merges
mod Walked
mod Orders
mod Said
