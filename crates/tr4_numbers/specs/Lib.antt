pub mod Names
pub mod Readers
pub mod Transformation
pub mod Values
