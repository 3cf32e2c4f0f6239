pub mod Cursors
pub mod Kept
pub mod Numbering
pub mod Starts
pub mod Steps
pub mod Targets
