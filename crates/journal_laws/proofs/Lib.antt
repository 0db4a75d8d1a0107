pub mod RunLaws
pub mod RoundLaws
pub mod SettledLaws
pub mod RightLaws
pub mod LegalLaws
pub mod EndLaws
pub mod MayComeLaws
pub mod RestsOnLaws
pub mod WorldLaws
pub mod SoundEnds
pub mod WorldsFound
pub mod SettledAtLaws
mod Examples
