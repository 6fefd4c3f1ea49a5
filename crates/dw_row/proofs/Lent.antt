-- Lemmas that the proofs of upper crates use.
pub mod RowLists
pub mod SameRows
pub mod Narrowed
pub mod Equal
