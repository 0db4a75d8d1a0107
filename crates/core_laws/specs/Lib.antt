pub mod Judged
pub mod Writes
pub mod Changes
pub mod Audience
pub mod Published
pub mod Rounds
