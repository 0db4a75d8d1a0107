pub mod FirstLaws
pub mod GatherLaws
