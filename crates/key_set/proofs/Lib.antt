pub mod Marks
pub mod Following
