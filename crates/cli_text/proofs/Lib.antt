mod Blocks
pub mod Cuts
pub mod Decimals
