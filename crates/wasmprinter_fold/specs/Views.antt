-- The folder as contracts describe it.
use Rattle.std.specs.Prelude.{Bool}
use Rattle.wasmprinter_spec.specs.Placed.{PlacedModule}
use Rattle.wasmprinter_spec.specs.Layout.Declarations.{Folding}
use Rattle.wasmprinter_spec.specs.Folding.Arities.{signatures_within}

-- Whether the texts of nodes contain ANSI escape sequences, and the module whose operators are folded.
pub record FolderView : Type 0 where
  pub color : Bool
  pub operators_of : PlacedModule

-- How the folder folds: with its color, and by the arities of the opcodes and of the items of its module.
abbrev pub folding_view : FolderView → Folding
folding_view f = record { color = f.color; signatures = signatures_within f.operators_of }
