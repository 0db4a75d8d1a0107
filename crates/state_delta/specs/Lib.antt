pub mod Change
pub mod Cut
pub mod Delta
pub mod Sides
