-- The pieces of lists of catch clauses, clause by clause.
use Rattle.std.specs.Prelude.{◌≡◌, List, [], ◌∷◌, ◌++◌}
use Rattle.std.proofs.Common.{ap}
use Rattle.wasmprinter_spec.specs.Labels.{Label}
use Rattle.wasmprinter_spec.specs.Piece.{OneSpace}
use Rattle.wasmprinter_spec.specs.Layout.Operators.{Setting, catch_pieces, catches_pieces}
use Rattle.wasmprinter_ops.specs.Blocks.{catch_view, catches_view}
use Rattle.wasmprinter_ops.specs.declared.block_immediates.Catch.{Catch}

module _ (s : Setting) (inner xs : List Label) where
  -- An empty list of catch clauses has no pieces.
  pub catches-none : (cs : List Catch) → cs ≡ [] → catches_pieces s inner xs (catches_view cs) ≡ []
  unfolding catches_pieces
  catches-none cs e = ap (λ ds. catches_pieces s inner xs (catches_view ds)) e

  -- The pieces of a list of catch clauses are those of the first clause and those of the others.
  pub catches-next : (cs rest : List Catch) (c : Catch) → cs ≡ c ∷ rest →
      catches_pieces s inner xs (catches_view cs) ≡ (OneSpace ∷ catch_pieces s inner xs (catch_view c)) ++ catches_pieces s inner xs (catches_view rest)
  unfolding catches_pieces
  catches-next cs rest c e = ap (λ ds. catches_pieces s inner xs (catches_view ds)) e
