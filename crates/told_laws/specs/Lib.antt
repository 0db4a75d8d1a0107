pub mod Course
pub mod Told
pub mod Serving
pub mod Keeping
