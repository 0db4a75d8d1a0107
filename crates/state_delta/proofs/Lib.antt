pub mod Changes
pub mod Cutting
pub mod Halves
pub mod Listing
pub mod Next
