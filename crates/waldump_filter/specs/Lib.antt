pub mod Keeping
pub mod Names
