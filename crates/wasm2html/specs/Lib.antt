-- Definitions that the contracts of the program cite.
pub mod Escaped
pub mod Silent
