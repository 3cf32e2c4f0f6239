-- Fields of a module, a file for each kind: the items of a field, that its pieces write them, and that they read
-- back
pub mod Scopes
pub mod Expressions
pub mod Limits
pub mod Headers
pub mod Tables
pub mod Memories
pub mod Globals
pub mod Tags
pub mod Imports
pub mod Exports
pub mod Start
pub mod Elements
pub mod DataSegments
pub mod Functions
