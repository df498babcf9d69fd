pub mod Sees
pub mod Visits
pub mod Knows
pub mod Begun
pub mod Runs
