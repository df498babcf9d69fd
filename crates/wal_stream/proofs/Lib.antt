pub mod FrameLaws
pub mod LogPuts
pub mod FollowLaws
pub mod FollowedImages
pub mod FetchLaws
pub mod TakeLaws
pub mod HardenLaws
pub mod SentLaws
mod ListLaws
mod AlikeLaws
mod DurableLaws
mod SyncLaws
mod PutLaws
mod SendLaws
