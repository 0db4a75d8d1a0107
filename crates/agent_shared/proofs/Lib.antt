pub mod Results
pub mod Marks
pub mod Desks
pub mod Sides
pub mod Settling
pub mod Passing
pub mod Ending
