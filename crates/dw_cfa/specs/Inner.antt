-- How the code keeps what the contracts say. No clause of a `pub fn` reaches these.
pub mod Operands
pub mod FrontInstr
pub mod ByOpcode
pub mod Listing
pub mod Opening
pub mod Machine
pub mod Runs
pub mod Exact
pub mod RowSteps
pub mod RowWalk
pub mod Steps
pub mod Turns
pub mod LookUp
pub mod Coverage
pub mod RuleAt
