mod FibEntries
pub mod LeftLaws
