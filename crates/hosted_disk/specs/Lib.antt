pub mod HostSegments
pub mod Hosted
pub mod Untouched
