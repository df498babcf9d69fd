mod FindLaws
mod ReadLaws
mod ReadSoFar
pub mod SettleLaws
mod ThereLaws
mod WithinLaws
mod WordLaws
