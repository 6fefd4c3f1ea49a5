-- How the code keeps what the contracts say. No clause of a `pub fn` reaches these.
pub mod Recovery
pub mod Room
