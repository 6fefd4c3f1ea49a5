pub mod Codes
pub mod Columns
pub mod Frames
pub mod Laws
pub mod Inner
