pub mod Code
pub mod Formats
pub mod Languages
pub mod Parts
pub mod Readers
pub mod Runs
pub mod Transformation
