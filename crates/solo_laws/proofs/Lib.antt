pub mod WaitingLaws
pub mod CourseLaws
pub mod ScriptLaws
