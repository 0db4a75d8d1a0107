pub mod Listed
pub mod Together
pub mod Neighbors
