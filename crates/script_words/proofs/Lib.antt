mod FieldLaws
mod WordLaws
mod LineLaws
