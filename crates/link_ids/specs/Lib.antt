pub mod LinkAttributes
pub mod Links
