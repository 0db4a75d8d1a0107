pub mod Weights
pub mod CountLaws
pub mod Parts
