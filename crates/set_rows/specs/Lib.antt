pub mod AnswerAsDue
pub mod AsDue
