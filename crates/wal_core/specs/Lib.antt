pub mod PlainData
pub mod Lines
pub mod Marks
pub mod Playing
pub mod Following
pub mod Cores
