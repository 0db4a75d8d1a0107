mod Orders
pub mod ValueForms
pub mod ChipForms
pub mod StateForms
