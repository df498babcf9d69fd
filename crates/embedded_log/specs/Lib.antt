pub mod Promised
pub mod Sessions
pub mod Appended
pub mod Switched
pub mod Opened
pub mod Reopened
pub mod Surviving
pub mod Living
