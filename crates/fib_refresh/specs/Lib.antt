pub mod Affected
pub mod Refreshed
