pub mod NumberLaws
pub mod KeysLaws
pub mod AffectedLaws
pub mod ScanLaws
pub mod RefreshLaws
