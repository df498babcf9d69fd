mod Flags
mod HeaderWords
mod PlacedSteps
mod RunSteps
pub mod NextSegmentLaws
pub mod PaddingLaws
pub mod OrderLaws
pub mod PageLaws
pub mod StreamLaws
pub mod WordPositions
pub mod OwnerLaws
pub mod EntryWordLaws
pub mod LogByteLaws
pub mod LogWordLaws
pub mod PlaceLaws
mod PageRows
