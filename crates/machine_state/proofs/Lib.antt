pub mod Lists
pub mod WordLists
pub mod Stages
pub mod Landing
pub mod Tapes
pub mod NothingFound
pub mod LocksEnough
pub mod Bounds
mod FirstWords
