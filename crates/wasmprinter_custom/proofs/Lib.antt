pub mod Adding
mod DylinkSubsections
pub mod FlagPieces
mod FlagRows
mod FoundSteps
pub mod LabelOrder
pub mod Lookups
pub mod Loops
pub mod Marked
pub mod Merging
mod NextEntry
pub mod Placing
pub mod Subsections
