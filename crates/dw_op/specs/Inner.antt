-- How the code keeps what the contracts say. No clause of a `pub fn` reaches these.
pub mod Codes
pub mod LeastOf
pub mod ByOperation
pub mod Steps
pub mod Windows
pub mod Accepted
pub mod EqualityLaws
pub mod Sums
pub mod Ranges
pub mod LeastBlock
pub mod Equality
pub mod Walks
pub mod FrontOp
pub mod Walk
