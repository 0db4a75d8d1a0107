pub mod Arity
pub mod ReadLists
pub mod FormLaws
pub mod ListLaws
pub mod ObjectLaws
