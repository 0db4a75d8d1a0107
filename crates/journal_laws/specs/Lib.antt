pub mod Runs
pub mod Settling
pub mod Beginnings
pub mod Trying
pub mod Worlds
pub mod SettledAt
