pub mod Order
pub mod Page
pub mod Log
pub mod LogPage
pub mod Placed
pub mod EntryWords
pub mod LogPlace
