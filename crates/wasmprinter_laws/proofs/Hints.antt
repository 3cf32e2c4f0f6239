-- The branch hints of a module stay in its text.
pub mod Bodies
pub mod Bare
pub mod FoldedBodies
pub mod Fields
pub mod Taken
pub mod Counts
pub mod Nodes
pub mod CountedBodies
pub mod Kept
