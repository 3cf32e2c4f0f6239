-- The definitions that the contracts of this crate cite.
pub mod Contexts
pub mod OpenLabels
pub mod Settings
