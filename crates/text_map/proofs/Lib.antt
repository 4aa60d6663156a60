pub mod Classes
pub mod Finding
pub mod Keyed
pub mod Placing
