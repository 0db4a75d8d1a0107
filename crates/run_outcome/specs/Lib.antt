pub mod Code
pub mod Refusal
pub mod Opening
pub mod Reports
pub mod Top
