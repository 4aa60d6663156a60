pub mod Model
pub mod Parts
pub mod Spans
pub mod ValidPages
pub mod Walks
