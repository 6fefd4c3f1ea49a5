-- Lemmas that the proofs of upper crates use.
pub mod Spellings
pub mod InstrLaws
pub mod Listings
pub mod Forward
pub mod RowsAt
pub mod RunLaws
pub mod KeptRuns
pub mod KeptLaws
pub mod Given
pub mod FaultPlaces
pub mod FaultLaws
pub mod BehindLaws
pub mod InstrCounts
pub mod Openings
pub mod RowFits
