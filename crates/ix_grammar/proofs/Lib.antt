pub mod FormLaws
pub mod FoundLaws
pub mod PageLaws
pub mod Staging
mod SeenLaws
mod SoundLaws
mod SpotLaws
