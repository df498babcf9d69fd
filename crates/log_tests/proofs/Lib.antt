pub mod SharedNumbers
