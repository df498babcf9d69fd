pub mod Lives
pub mod Calls
pub mod Receipts
pub mod Theorem
pub mod ReceiveEvents
