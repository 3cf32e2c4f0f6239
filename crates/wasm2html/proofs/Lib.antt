-- Lemmas on the encoding.
pub mod Inert
pub mod Reading
