pub mod Told
pub mod OpenTold
pub mod DiskTold
pub mod ReaderTold
