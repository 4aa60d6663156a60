pub mod AlikeForms
pub mod AmongLaws
pub mod ChainLaws
pub mod ContentLaws
pub mod DepthLaws
pub mod FactsLaws
mod FaultlessLaws
pub mod FitLaws
mod GatherLaws
mod GroupLaws
mod LinkLaws
mod ListLaws
pub mod MemberLaws
mod NamedLaws
pub mod NoTargets
mod NoteLaws
mod RedirectLaws
pub mod SaidLaws
pub mod TargetLaws
mod TimelyLaws
pub mod ValueLaws
