-- The groups of a folded module's text are the nodes of its trees.
pub mod Lists
pub mod Fields
pub mod Modules
