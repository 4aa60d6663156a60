pub mod Adding
pub mod BelowLaws
pub mod CalledLaws
pub mod ChainLaws
pub mod EndLaws
pub mod GroupLaws
pub mod LangLaws
pub mod LinkLaws
mod LinkRows
pub mod LoopLaws
pub mod NamedLaws
pub mod NoteLaws
pub mod NotesMoved
pub mod NotesSame
pub mod OnceLaws
pub mod OrderLaws
pub mod PageLaws
pub mod RoleLaws
mod SmallPages
pub mod SpotLaws
