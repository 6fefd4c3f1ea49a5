pub mod CommandLine
pub mod Plan
pub mod Values
pub mod Inner
