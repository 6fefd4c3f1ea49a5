-- How the code keeps what the contracts say. No clause of a `pub fn` reaches these.
pub mod Steps
pub mod Runs
pub mod Evaluation
pub mod Location
pub mod Description
pub mod Registers
