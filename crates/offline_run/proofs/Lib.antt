pub mod CheckLaws
pub mod TextLaws
pub mod OfflineLaws
