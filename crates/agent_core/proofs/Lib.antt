mod Steps
mod TurnLaws
