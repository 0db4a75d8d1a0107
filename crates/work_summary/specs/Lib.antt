pub mod Digest
pub mod Summary
