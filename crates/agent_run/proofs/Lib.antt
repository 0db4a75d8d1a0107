mod StandingLaws
mod RowLaws
mod RunningLaws
