pub mod BySlot
pub mod Difference
