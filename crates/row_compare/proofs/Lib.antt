pub mod FrontLaws
pub mod StepLaws
pub mod Derived
