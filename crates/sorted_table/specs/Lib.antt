pub mod Rows
pub mod Chunks
