pub mod CommandBytes
pub mod CommandKinds
pub mod Gains
pub mod PageReads
pub mod SourceCalls
pub mod Summary
pub mod Texts
pub mod Verdicts
