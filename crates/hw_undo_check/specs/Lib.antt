pub mod Samples
pub mod Cases
