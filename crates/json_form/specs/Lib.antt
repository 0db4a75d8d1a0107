pub mod Form
pub mod Arrays
pub mod Lists
pub mod Objects
