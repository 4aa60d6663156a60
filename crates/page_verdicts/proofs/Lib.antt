pub mod ForestLaws
pub mod HeldLaws
pub mod JudgeLaws
pub mod PlainLaws
pub mod TraceLaws
pub mod VerdictLaws
