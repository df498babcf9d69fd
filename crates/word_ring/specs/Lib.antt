pub mod InHand
pub mod Loaded
pub mod MadeCalls
pub mod Written
pub mod Ring
pub mod Mapped
pub mod Copied
pub mod CopyRuns
