-- Definitions that the contracts of the program cite.
pub mod Arguments
pub mod CodeSection
pub mod Excerpt
pub mod FunctionText
pub mod HiddenText
pub mod Messages
pub mod Outcome
pub mod OutputFiles
pub mod OwnTexts
pub mod Parsing
pub mod Parts
