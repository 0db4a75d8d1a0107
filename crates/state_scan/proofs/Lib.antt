pub mod Joining
pub mod Listing
pub mod Looking
pub mod Neighbors
pub mod Near
