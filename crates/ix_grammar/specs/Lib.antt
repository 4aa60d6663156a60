pub mod Additions
pub mod Measures
pub mod NeededForms
pub mod Parts
pub mod SoundFacts
pub mod StrayAttributes
