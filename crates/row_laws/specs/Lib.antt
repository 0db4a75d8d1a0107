pub mod RowAt
pub mod Hops
pub mod Touching
