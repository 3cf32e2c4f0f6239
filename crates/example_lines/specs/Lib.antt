-- The definitions that the contracts of this crate cite.
pub mod Places
pub mod Answers
pub mod Status
pub mod Queries
pub mod Outcome
