pub mod Backends
pub mod Sessions
pub mod Lanes
pub mod Playing
