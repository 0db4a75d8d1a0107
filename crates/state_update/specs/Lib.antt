pub mod Births
pub mod Kind
pub mod Sync
pub mod Applied
pub mod Made
