pub mod Adapter
pub mod Failing
pub mod Pages
