mod Writes
mod ItemLaws
mod ActLaws
mod EntryLaws
mod DraftLaws
mod ScriptLaws
mod SaysLaws
mod ReadBackLaws
