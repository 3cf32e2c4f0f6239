-- Definitions that the contracts of the library for C cite.
pub mod Copied
pub mod Events
pub mod Messages
pub mod Omitted
pub mod Outcomes
pub mod Over
pub mod Printing
pub mod Refused
pub mod Statuses
pub mod Without
