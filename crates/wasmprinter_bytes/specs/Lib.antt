-- The definitions that the contracts of this crate cite.
pub mod Items
pub mod Lists
pub mod Messages
pub mod Reads
pub mod Reasons
