-- How the code keeps what the contracts say. No clause of a `pub fn` reaches these.
pub mod FrameAt
pub mod Windows
pub mod Expressions
pub mod Changes
pub mod Index
pub mod Looks
