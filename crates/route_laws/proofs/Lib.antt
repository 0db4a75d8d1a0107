pub mod Finds
pub mod BestLaws
pub mod Prefixes
pub mod MatchLaws
mod Orders
mod Floors
pub mod LastLaws
pub mod DescentLaws
mod Decided
pub mod EndLaws
mod RankLaws
pub mod LocalLaws
pub mod MovedLaws
mod MovedKeys
pub mod FibsLaws
pub mod NearestLaws
