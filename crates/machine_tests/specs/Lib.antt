pub mod Order
pub mod Locks
pub mod Turns
pub mod Progress
pub mod Ring
pub mod Pages
pub mod Positions
pub mod Agreeing
