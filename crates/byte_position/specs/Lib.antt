pub mod Layout
pub mod Geometry
pub mod Position
