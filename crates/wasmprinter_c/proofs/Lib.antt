pub mod Overs
pub mod Cuts
pub mod Bounds
pub mod OnlyLines
pub mod NameLists
pub mod Answered
pub mod FirstKept
pub mod Runs
pub mod Left
pub mod Outcomes
pub mod Texts
mod FlagRows
