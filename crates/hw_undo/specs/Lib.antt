pub mod Counts
pub mod Undo
pub mod Moments
pub mod Phases
pub mod Targets
