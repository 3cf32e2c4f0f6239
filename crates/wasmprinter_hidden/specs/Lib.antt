-- The definitions that the contracts of this crate cite.
pub mod Extents
pub mod Findings
pub mod Hidden
pub mod HiddenData
pub mod HiddenHints
pub mod HiddenNames
pub mod HiddenOnce
pub mod Lengths
pub mod NameCounts
pub mod NameReadings
pub mod NamedItems
pub mod OpenParts
pub mod Shortest
