pub mod Ground
pub mod Callers
pub mod Calls
pub mod Closing
