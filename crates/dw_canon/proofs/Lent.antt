-- Lemmas that the proofs of upper crates use.
pub mod Fields
pub mod Readback
pub mod Extra
pub mod Layout
pub mod Blocks
pub mod Tests
pub mod Forms
pub mod Differences
pub mod Programs
pub mod InstrFits
pub mod MemberPlaces
pub mod Bounds
pub mod Rendered
pub mod Shared
pub mod Canonical
pub mod Joins
