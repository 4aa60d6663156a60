pub mod Exchanging
pub mod Placing
