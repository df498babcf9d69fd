pub mod Crc32c
pub mod Folding
pub mod SparseMultiple
