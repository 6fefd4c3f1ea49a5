pub mod Among
pub mod Ranges
pub mod Inner
