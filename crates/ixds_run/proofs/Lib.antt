mod SoundPages
pub mod AnswerLaws
pub mod DueLaws
pub mod FollowLaws
pub mod FollowedLaws
pub mod LineLaws
pub mod MemoryLaws
pub mod OutcomeLaws
pub mod ReadBackLaws
pub mod ReadyLaws
pub mod RearrangedPages
pub mod ReportLaws
pub mod ScriptLaws
pub mod SessionLaws
pub mod SummaryLaws
pub mod TargetLaws
