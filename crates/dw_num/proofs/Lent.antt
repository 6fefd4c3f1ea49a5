-- Lemmas that the proofs of upper crates use.
pub mod LebLaws
pub mod FixedLaws
pub mod Turned
pub mod SlebLaws
pub mod Steps
pub mod Shortest
pub mod Stays
pub mod Refusals
