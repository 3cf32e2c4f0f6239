-- Functions one after the other, each with its hints.
use Rattle.std.specs.Prelude.{◌≡◌, ℕ, suc, ◌+◌, ◌≤◌, drop, List, [], ◌∷◌, ◌++◌, length, Some, slice_get}
use Rattle.std.proofs.Common.{ap, add-one, drop-cons}
use Rattle.std.proofs.lemmas.Option.{slice_get_within, get_or_from_slice_get}
use Rattle.std.proofs.lemmas.List.{drop_all}
use Rattle.wasmprinter_spec.specs.Customs.Hints.{FunctionHints, hints_of_next, entries_after}
use Rattle.wasmprinter_spec.specs.Placed.{PlacedFunction}
use Rattle.wasmprinter_spec.specs.Options.{Options}
use Rattle.wasmprinter_spec.specs.Layout.Declarations.{Scope}
use Rattle.wasmprinter_spec.specs.Layout.Functions.{function_pieces, functions_pieces}

module _ (o : Options) (s : Scope) where
  first_of : (es : List FunctionHints) (n : ℕ) (fs rest : List PlacedFunction) (f : PlacedFunction) → fs ≡ f ∷ rest →
      functions_pieces o s es n fs ≡ function_pieces o s n (hints_of_next n es) f ++ functions_pieces o s (entries_after n es) (n + 1) rest
  unfolding functions_pieces
  first_of es n fs rest f e = ap (functions_pieces o s es n) e

  none_of : (es : List FunctionHints) (n : ℕ) (fs : List PlacedFunction) → fs ≡ [] → functions_pieces o s es n fs ≡ []
  unfolding functions_pieces
  none_of es n fs e = ap (functions_pieces o s es n) e

  -- The pieces of the functions from i on are those of function i with its hints, and those of the functions after
  -- it.
  pub functions-found : (es : List FunctionHints) (n i : ℕ) (fs : List PlacedFunction) (f : PlacedFunction) → slice_get fs i ≡ Some f →
      functions_pieces o s es n (drop i fs) ≡ function_pieces o s n (hints_of_next n es) f ++ functions_pieces o s (entries_after n es) (n + 1) (drop (i + 1) fs)
  functions-found es n i fs f e =
      let step : drop i fs ≡ f ∷ drop (i + 1) fs =
      rw (add-one, drop-cons fs i f (slice_get_within fs i f e)) (ap (λ y. y ∷ drop (suc i) fs) (get_or_from_slice_get fs i f f e)) in
      first_of es n (drop i fs) (drop (i + 1) fs) f step

  -- If no function is left, no piece is left.
  pub functions-none : (es : List FunctionHints) (n i : ℕ) (fs : List PlacedFunction) → length fs ≤ i → functions_pieces o s es n (drop i fs) ≡ []
  functions-none es n i fs h = none_of es n (drop i fs) (drop_all i fs h)
