pub mod Choices
pub mod LinkStates
pub mod LinkTables
pub mod Model
