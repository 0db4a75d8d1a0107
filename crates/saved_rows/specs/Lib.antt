pub mod Values
pub mod ChipRows
pub mod StateRows
