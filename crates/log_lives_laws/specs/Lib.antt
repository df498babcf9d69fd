pub mod History
pub mod Receipts
pub mod Lives
pub mod Receives
