mod HalfBytes
mod Lookups
mod Remainders
mod SparseMultiple
mod Spread
mod Words
pub mod LaneLaws
