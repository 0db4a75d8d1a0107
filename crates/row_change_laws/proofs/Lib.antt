pub mod BetweenLaws
pub mod MadeLaws
pub mod ClosedChanges
