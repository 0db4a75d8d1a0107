pub mod Between
pub mod Made
