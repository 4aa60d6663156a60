pub mod ArcGroups
pub mod ArcLinks
pub mod BorrowedArcs
pub mod EndTests
pub mod FootnoteLinks
pub mod Model
pub mod NamedEnds
pub mod Tests
