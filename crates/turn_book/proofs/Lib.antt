pub mod Own
pub mod Keeps
pub mod KeepsDesk
pub mod KeepsChip
pub mod KeepsCounts
pub mod KeepsSeats
pub mod Ending
pub mod Closes
