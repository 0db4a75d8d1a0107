pub mod TicketLaws
pub mod SettlingLaws
pub mod LineLaws
pub mod SightLaws
