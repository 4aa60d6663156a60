pub mod ApartRows
pub mod FoundRows
pub mod PageRows
