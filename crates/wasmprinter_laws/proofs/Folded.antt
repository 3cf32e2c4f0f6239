-- Folded operators: the items of their text, and that they read back
pub mod OneLine
pub mod Words
pub mod Items
pub mod Rows
pub mod Heads
pub mod Reads
pub mod Texts
pub mod Spelled
pub mod Writes
pub mod ReadBack
pub mod Groups
pub mod Lists
pub mod Begins
