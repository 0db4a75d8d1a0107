pub mod Values
pub mod Draws
pub mod Base
pub mod Generated
pub mod Examples
