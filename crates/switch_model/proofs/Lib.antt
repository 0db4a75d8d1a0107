pub mod KeyLaws
pub mod Notation
mod AnyAtPlace
mod ExamplesAddresses
mod ExamplesRoutes
mod ExamplesRows
mod ExamplesRounds
mod ExamplesPortReasons
mod ExamplesIntfReasons
mod ExamplesNeighborReasons
mod ExamplesRouteReasons
mod ExamplesReasonOrder
pub mod Leaving
pub mod TouchedRuns
mod ExamplesTouched
