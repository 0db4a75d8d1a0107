pub mod Index
pub mod SubnetKey
pub mod SubnetList
pub mod Overlapping
