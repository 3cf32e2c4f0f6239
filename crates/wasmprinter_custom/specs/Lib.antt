-- The definitions that the contracts of this crate cite.
pub mod Adds
pub mod Contents
pub mod Entries
pub mod FlagPieces
pub mod Flags
pub mod HoldsEntries
pub mod Judgements
pub mod LabelViews
pub mod Labels
pub mod Lookups
pub mod Shown
pub mod Sound
pub mod Spaces
pub mod Treatments
pub mod Views
