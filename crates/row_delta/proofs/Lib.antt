pub mod TableLaws
pub mod ChangeLaws
