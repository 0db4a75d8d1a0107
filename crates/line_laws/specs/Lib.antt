pub mod Tickets
pub mod Serving
