pub mod DeskLaws
pub mod CallLaws
pub mod AnswerLaws
pub mod AloneLaws
