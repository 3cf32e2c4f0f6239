-- Items that code reads one at a time, before it is known whether all of them are encoded.
use Rattle.std.specs.Prelude.{ℕ, zero, suc, List, [], ◌∷◌, Option, Some, MatchOption}
use Rattle.wasmprinter_spec.specs.Grammar.{Input, ◌>>=◌}
use Rattle.wasmprinter_spec.specs.Repeated.{some_or}

module _ {A : Type 0} (parse : Input → Option (A × Input)) where
  -- The first n items; the list ends before the first item that can't be read.
  abbrev pub items_of : ℕ → Input → List A
  items_of zero at = []
  items_of (suc n) at = some_or (parse at) [] (λ x. x.0 ∷ items_of n x.1)

  -- The position after n items.
  abbrev pub skip_at : ℕ → Input → Option Input
  skip_at zero at = Some at
  skip_at (suc n) at = parse at >>= λ x. skip_at n x.1

  -- The bytes encode n items.
  abbrev pub HasItems : ℕ → Input → Type 0
  HasItems zero at = Unit {0}
  HasItems (suc n) at = MatchOption (parse at) ⊥ (λ x. HasItems n x.1)
