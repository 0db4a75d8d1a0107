mod EntryPlaces
mod ImageLaws
mod IndexLaws
mod Members
mod Outcomes
mod RawLaws
mod SlotLaws
mod TakenLaws
