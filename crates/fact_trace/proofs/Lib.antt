pub mod HeardLaws
pub mod AgreeLaws
pub mod FoundLaws
pub mod SaidLaws
pub mod SlashLaws
pub mod SpeltLaws
pub mod MoveLaws
pub mod WayLaws
pub mod ElementLaws
pub mod OrderLaws
pub mod TextLaws
pub mod TracerLaws
pub mod RearrangedLaws
pub mod SayingLaws
pub mod NumberLaws
mod Rows
