pub mod Records
pub mod Standing
pub mod Steps
pub mod Tries
pub mod Placing
pub mod SwitchRoom
pub mod Since
pub mod StartLaws
