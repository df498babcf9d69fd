pub mod History
pub mod Lives
pub mod Reopened
pub mod Growing
pub mod Told
pub mod Unhindered
pub mod Keeping
pub mod Surviving
