pub mod AddingNothing
pub mod AheadLaws
pub mod AwaitLaws
pub mod BeginLaws
pub mod BehindLaws
pub mod Closes
pub mod CommitLaws
pub mod CopyLaws
pub mod FlushLaws
pub mod FlightLaws
pub mod InHandLaws
pub mod InsertLaws
pub mod LandLaws
pub mod LookLaws
pub mod Keeping
pub mod NextWord
pub mod Opens
pub mod PageLaws
pub mod Refusals
pub mod Reopens
pub mod ReservedLaws
mod RoomLaws
pub mod Passing
pub mod Plain
pub mod Trying
pub mod Unlocking
pub mod Watched
pub mod WholeLaws
mod WaitLaws
mod WriteLaws
pub mod WritingCalls
mod Having
mod SwitchLaws
pub mod Seated
pub mod Lanes
mod SwitchTryLaws
