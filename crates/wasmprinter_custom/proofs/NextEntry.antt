-- The next entry of an iterator, and the entries that remain after it, are the entries that it had.
use Rattle.std.specs.Prelude.{◌≡◌, List, [], ◌∷◌, Option, Some, None, MatchOption}
use Rattle.std.proofs.Common.{sym}
use Rattle.wasmprinter_spec.specs.Customs.Hints.{FunctionHints}
use Rattle.wasmprinter_custom.specs.Entries.{entries_left}

pub next_is_first : (next : Option FunctionHints) (had after : List FunctionHints) →
    MatchOption next ((had ≡ []) × (after ≡ [])) (λ x. had ≡ x ∷ after) → entries_left next after ≡ had
next_is_first None had after h = sym h.0
next_is_first (Some x) had after h = sym h
