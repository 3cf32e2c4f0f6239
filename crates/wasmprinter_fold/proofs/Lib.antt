pub mod AllHeads
mod BlockLabels
pub mod Blocks
pub mod Candidates
mod Gathered
mod Growing
mod LabelsFound
pub mod Lasts
mod Lists
pub mod Maps
pub mod NodeTexts
pub mod Postorders
pub mod RowLaws
pub mod Runs
pub mod Steps
pub mod TaskLaws
pub mod TextLaws
mod Walks
