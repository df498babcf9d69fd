pub mod BlockMapLaws
pub mod PutLaws
pub mod CallLaws
pub mod RedoLaws
mod ListedImages
mod StoreLaws
mod ImageLaws
mod CountLaws
mod LineLaws
mod ListingLaws
