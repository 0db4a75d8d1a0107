pub mod Closed
pub mod Fronts
pub mod May
pub mod Oks
pub mod Pairs
