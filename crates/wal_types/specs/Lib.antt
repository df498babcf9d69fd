pub mod Hexadecimal
pub mod LsnText
