-- How the code keeps what the contracts say. No clause of a `pub fn` reaches these.
pub mod RegisterWalk
pub mod ChangeWalk
pub mod Begun
pub mod Writing
pub mod Lengths
pub mod Groups
pub mod Known
pub mod Apart
pub mod Differences
pub mod Puts
pub mod Places
pub mod Listed
pub mod Answers
