-- How the code keeps what the contracts say. No clause of a `pub fn` reaches these.
pub mod Agreement
pub mod Among
pub mod Changes
pub mod Difference
pub mod Entries
pub mod Kept
pub mod RowEquality
pub mod States
