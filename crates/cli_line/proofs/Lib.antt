pub mod Cuts
pub mod Hexadecimals
pub mod Declaring
pub mod OneFault
pub mod PlainWalk
pub mod PlainWords
pub mod Requests
