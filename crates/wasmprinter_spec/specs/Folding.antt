-- Folding: an operator is in parentheses with its operands, each of which is folded too, and a block with its
-- content. The standard (section 6.5, "Folded Instructions") defines what folded operators mean and leaves open
-- which are folded: that is this printer's own.
pub mod Arities
pub mod Code
pub mod Tree
pub mod Unfolding
pub mod Refusals
