pub mod FrontLaws
pub mod LinkLaws
pub mod MarkupLaws
pub mod MarkupSteps
pub mod PlainLaws
pub mod WithinLaws
