mod TestLaws
mod Builds
mod OtherPart
mod Subnets
mod Stages
mod KeptVlans
mod KeptPorts
mod KeptIntfs
mod KeptNeighbors
mod KeptRoutes
mod BuiltPorts
mod BuiltIntfs
mod BuiltNeighbors
pub mod SoundLaws
pub mod JournalLaws
pub mod SubnetLaws
pub mod ClosedLaws
pub mod OrderLaws
pub mod DifferLaws
