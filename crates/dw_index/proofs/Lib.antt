pub mod Lent
pub mod Ordered
