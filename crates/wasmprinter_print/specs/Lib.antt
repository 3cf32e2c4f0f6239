-- The definitions that the contracts of this crate cite.
pub mod Change
pub mod EffectLaws
pub mod Effects
pub mod Errors
pub mod Indents
pub mod MadeCalls
pub mod MadeLaws
pub mod OutputLaws
pub mod Styles
pub mod TextOnly
pub mod Writers
