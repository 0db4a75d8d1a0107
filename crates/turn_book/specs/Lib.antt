pub mod Lists
pub mod Passes
pub mod Closing
pub mod Means
pub mod Rule
pub mod Steps
pub mod PassLaws
