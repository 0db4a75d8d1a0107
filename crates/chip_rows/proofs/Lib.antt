mod Gathered
mod SlotLaws
mod RowLaws
mod SameLaws
mod DifferenceLaws
