pub mod Causes
pub mod Deeds
pub mod PageCalls
pub mod PartPlaces
pub mod Parts
pub mod TargetCalls
pub mod TargetPath
pub mod Writers
