-- The definitions that the contracts of this crate cite.
pub mod AnyFolding
pub mod ColoredLaws
pub mod Feeds
pub mod FoldedLaws
pub mod LabelLaws
pub mod Listed
pub mod NameLaws
pub mod NodeLaws
pub mod OperatorLaws
pub mod PlainLaws
pub mod TreeLaws
