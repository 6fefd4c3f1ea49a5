-- How the code keeps what the contracts say. No clause of a `pub fn` reaches these.
pub mod Stated
pub mod Gathered
pub mod Dump
pub mod Ranges
pub mod Spelling
