-- The definitions that the contracts of this crate cite.
pub mod AnsiText
pub mod Colored
pub mod Decoded
pub mod Found
pub mod Gained
pub mod Lined
pub mod Outcome
pub mod Plain
pub mod Prefix
pub mod Printed
pub mod TextOfFile
