mod ScriptRows
pub mod AnswerLaws
pub mod CopyLaws
pub mod CourseLaws
pub mod KeptLaws
pub mod ReadLaws
pub mod ScriptLaws
pub mod SessionLaws
pub mod StepLaws
pub mod TakenLaws
