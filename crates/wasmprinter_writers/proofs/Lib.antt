pub mod CutLaws
pub mod Decimals
pub mod LineLaws
pub mod LineRuns
pub mod NoLineLost
pub mod Runs
pub mod SequenceRows
