mod DeskLaws
mod AgentLaws
mod AnswerLaws
