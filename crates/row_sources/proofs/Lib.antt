pub mod GatherLaws
pub mod SetLaws
pub mod HostLaws
pub mod RowLaws
