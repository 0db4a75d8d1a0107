pub mod Numbered
pub mod Indexing
mod Changing
mod Overlaps
