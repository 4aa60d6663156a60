pub mod Denotation
pub mod GoodMarkup
pub mod Instance
pub mod MarkupTrees
pub mod Proper
pub mod Theorem
