pub mod Rows
pub mod InPlace
pub mod Difference
pub mod Agreement
pub mod RegisterSets
pub mod States
pub mod Inner
