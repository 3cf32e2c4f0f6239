-- The definitions that the contracts of this crate cite.
pub mod ColorCalls
pub mod Cuts
pub mod Lined
pub mod NoLineLost
pub mod Numbers
pub mod Tracked
pub mod Tracking
pub mod Writing
