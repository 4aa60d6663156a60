pub mod Hashes
pub mod Keys
pub mod Places
pub mod Tables
pub mod Texts
