pub mod JudgedLaws
pub mod ChangeLaws
pub mod AudienceLaws
pub mod PublishedLaws
pub mod CoreLaws
pub mod OneLaws
pub mod SettledLaws
pub mod OpenLaws
