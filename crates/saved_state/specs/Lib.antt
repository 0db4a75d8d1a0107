pub mod Contents
pub mod Digest
pub mod Texts
pub mod Reading
pub mod Merging
