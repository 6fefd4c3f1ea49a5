pub mod Answers
pub mod Inner
