-- Lemmas that the proofs of upper crates use.
pub mod Ranges
pub mod LeastBlocks
pub mod EncodeLaws
pub mod LeastOne
pub mod ReadingLaws
pub mod Spellings
pub mod Blocks
pub mod Lines
pub mod FaultPlaces
