-- Lemmas that the proofs of upper crates use.
pub mod Endings
