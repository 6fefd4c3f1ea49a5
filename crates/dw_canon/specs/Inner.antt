-- How the code keeps what the contracts say. No clause of a `pub fn` reaches these.
pub mod Fits
pub mod Laid
pub mod Written
pub mod Laws
pub mod Renders
pub mod Spelling
pub mod Difference
pub mod Group
pub mod Canon
