pub mod Front
pub mod Compare
