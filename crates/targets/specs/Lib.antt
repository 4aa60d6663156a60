pub mod Breaches
pub mod Forest
pub mod ValidSets
