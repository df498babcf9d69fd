pub mod Foreign
pub mod Found
pub mod Reading
pub mod Words
