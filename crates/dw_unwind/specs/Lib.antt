pub mod Unwound
pub mod UnwoundAt
pub mod Laws
pub mod Inner
