pub mod History
pub mod Later
pub mod Sent
