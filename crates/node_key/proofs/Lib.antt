pub mod Floor
pub mod Words
