pub mod Check
pub mod Offline
