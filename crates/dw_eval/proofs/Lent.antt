-- Lemmas that the proofs of upper crates use.
pub mod Results
pub mod MemoryBytes
