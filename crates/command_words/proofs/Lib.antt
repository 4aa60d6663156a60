mod Literals
pub mod GivenLaws
pub mod Named
pub mod NumberLaws
pub mod Taken
