pub mod TopLaws
pub mod RunLaws
pub mod OrderLaws
