-- The definitions that the contracts of this crate cite.
pub mod Arities
pub mod Blocks
pub mod ByNumber
pub mod Immediates
pub mod OfViews
pub mod Nesting
pub mod Operands
pub mod Operators
pub mod Shapes
pub mod Types
pub mod ValTypes
