pub mod Model
pub mod TextTests
