mod AboveLaws
pub mod AllowedLaws
pub mod ArcLaws
pub mod AsciiLaws
mod BelowLaws
pub mod BodiesFit
pub mod BodyLaws
pub mod CanonicalLaws
pub mod CleanLaws
mod ClosingLaws
mod ComesLaws
mod ContentsMoved
mod ContentsShuffled
pub mod Exchanged
mod FactsMoved
mod FactsShuffled
pub mod FaultsMoved
pub mod ForestLaws
pub mod FormFits
pub mod FormLaws
pub mod FromElements
pub mod HasLaws
pub mod HeardLaws
pub mod HoldLaws
pub mod HolderLaws
pub mod IdsFit
mod LinkStandLaws
pub mod LinksFit
mod LinksKept
pub mod ListsFit
pub mod LocatorFit
pub mod MarkupTexts
pub mod MadeLaws
mod MembersSame
pub mod NameFits
pub mod NoteSums
pub mod NoteTexts
pub mod NumberFits
pub mod OrderFit
pub mod OrderedFacts
pub mod PartLaws
pub mod PartsFit
mod PlaceLaws
pub mod ProperLaws
pub mod Rearranged
pub mod RefLaws
mod RenamedLaws
pub mod ReportsMoved
pub mod RolesFit
pub mod SetLaws
mod Shuffled
pub mod SoundLaws
pub mod SpelledLaws
pub mod StandLaws
pub mod SuchLaws
pub mod SumLaws
pub mod TextFits
pub mod TokenFits
pub mod TotalLaws
pub mod TupleFit
pub mod UnbrokenLaws
pub mod ValueTexts
pub mod ValuesCome
mod ValuesMoved
pub mod WalkLaws
