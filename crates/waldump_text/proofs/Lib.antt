pub mod AlignedLaws
pub mod WordLaws
pub mod SinkLaws
mod SiftingLaws
pub mod HexadecimalLaws
pub mod JoinedLaws
pub mod SpelledLaws
pub mod StepLaws
pub mod ListingLaws
pub mod DumpLaws
pub mod EverythingLaws
pub mod StatisticsLaws
pub mod TallyLaws
pub mod CountingLaws
pub mod StatisticsDump
pub mod QuietLaws
mod DayCounts
mod Pushing
mod TimeLaws
