-- The definitions that the contracts of this crate cite.
pub mod Buffers
pub mod Building
pub mod Candidates
pub mod Counted
pub mod Frames
pub mod Gathering
pub mod Growing
pub mod Heads
pub mod Mapping
pub mod Named
pub mod Postorder
pub mod Refused
pub mod Rows
pub mod Shown
pub mod Tasks
pub mod Views
