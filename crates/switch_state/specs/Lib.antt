pub mod StateView
pub mod Plain
pub mod Follows
pub mod Edit
pub mod EditKeys
pub mod Valid
pub mod Paths
