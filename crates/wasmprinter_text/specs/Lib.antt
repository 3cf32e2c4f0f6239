-- The definitions that the contracts of this crate cite.
pub mod Formats
pub mod Items
pub mod Numbers
pub mod Variables
