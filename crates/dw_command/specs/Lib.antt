pub mod Answers
pub mod Engine
pub mod Failure
pub mod Inner
