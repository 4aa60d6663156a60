pub mod Scaled
pub mod WrittenDigits
