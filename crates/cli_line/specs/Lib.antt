pub mod Given
pub mod Meanings
pub mod Asking
pub mod Plain
pub mod Syntax
pub mod Texts
