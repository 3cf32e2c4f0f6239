-- The definitions that the contracts of this crate cite.
pub mod Endings
pub mod Functions
pub mod LocalWalk
pub mod Parts
pub mod Scopes
pub mod Sections
pub mod TypeLines
