pub mod Prefixes
pub mod Repeats
pub mod TextRuns
pub mod Texts
