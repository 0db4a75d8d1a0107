pub mod Match
pub mod Descent
pub mod Ends
pub mod Entries
pub mod Nearest
pub mod Local
pub mod Moved
