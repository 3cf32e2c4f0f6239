-- The definitions that the contracts of this crate cite.
pub mod Bodies
pub mod Contents
pub mod Decoding
pub mod Externs
pub mod Gathering
pub mod Growing
pub mod Modules
pub mod Places
pub mod Refusals
pub mod Sections
pub mod Segments
pub mod Tables
