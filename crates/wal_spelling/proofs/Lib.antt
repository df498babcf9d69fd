pub mod Bytes
pub mod Words
mod WordRuns
pub mod PlainRecords
pub mod RightBlocks
pub mod BlockSteps
pub mod Acceptance
pub mod AfterHeader
pub mod CrcBounds
pub mod SwitchLaws
pub mod SpellingLaws
