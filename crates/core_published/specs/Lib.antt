pub mod ChipCaps
pub mod Refusals
