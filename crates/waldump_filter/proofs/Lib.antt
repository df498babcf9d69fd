pub mod KeepingLaws
pub mod Lookups
