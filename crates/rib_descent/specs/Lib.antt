pub mod Shared
pub mod Step
