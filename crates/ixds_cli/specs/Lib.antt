pub mod Complaints
pub mod Endings
pub mod Words
