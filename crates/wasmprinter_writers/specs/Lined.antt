-- The view of an iterator over the lines of a text.
use Rattle.std.specs.Prelude.{ℕ, List}
use Rattle.wasmprinter_spec.specs.Lines.{TextLine}

-- The whole text that the iterator borrows, and the lines that are left.
pub record Lined : Type 0 where
  pub storage : List ℕ
  pub lines : List TextLine
