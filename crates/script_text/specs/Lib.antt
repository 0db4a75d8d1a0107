pub mod UpdateText
pub mod Grammar
pub mod Script
pub mod Reading
pub mod Draft
pub mod Ranges
pub mod Values
pub mod ReadBack
