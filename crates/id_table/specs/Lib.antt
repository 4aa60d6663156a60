pub mod Gathered
pub mod Model
pub mod ModelCodes
pub mod Renumbering
pub mod Slices
pub mod Tables
