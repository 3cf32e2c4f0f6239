-- The branch hints of a module, each with its operator. (Code Metadata, a document that accompanies the standard.)
use Rattle.std.specs.Prelude.{ℕ, ◌+◌, ◌-◌, List, [], ◌∷◌, ◌++◌, Bool, true, ◌==◌, ◌&&◌, nat_lt, length, map, slice_get, Option, Some, None, if◌then◌else◌, option_map}
use Rattle.wasmprinter_spec.specs.Grammar.{◌>>=◌, Placed}
use Rattle.wasmprinter_spec.specs.Operator.{Operator}
use Rattle.wasmprinter_spec.specs.Placed.{Body, PlacedFunction, PlacedModule}
use Rattle.wasmprinter_spec.specs.Module.{without_places, imported_types, func_import}
use Rattle.wasmprinter_spec.specs.Customs.Hints.{Hint, FunctionHints, hints_of}
use Rattle.wasmprinter_spec.specs.Text.Items.{each}

-- A hint of a module or of a text: the index of the function, the number of the operator in its body, and whether
-- the branch is likely.
pub record OperatorHint : Type 0 where
  pub function : ℕ
  pub operator : ℕ
  pub taken : Bool

-- The hint on operator k of the function with index f.
abbrev pub operator_hint : ℕ → ℕ → Bool → OperatorHint
operator_hint f k taken = record { function = f; operator = k; taken = taken }

-- The number of the operator that begins at the place. The first of the operators has the number k.
abbrev pub number_at : ℕ → ℕ → List (Placed Operator) → Option ℕ
number_at place k [] = None
number_at place k (o ∷ os) = if o.place == place then Some k else number_at place (k + 1) os

-- The hint h in the body b of the function with index f; `None` if no operator begins at the offset of the hint.
abbrev pub hint_in : ℕ → Placed Body → Placed Hint → Option OperatorHint
hint_in f b h = option_map (λ k. operator_hint f k h.value.taken) (number_at (b.place + h.value.offset) 0 b.value.operators)

-- The body of the function with index f, if it is defined. The first `imports` functions are imported.
abbrev pub body_at : ℕ → List PlacedFunction → ℕ → Option (Placed Body)
body_at imports fs f = if nat_lt f imports then None else option_map (λ x. x.body) (slice_get fs (f - imports))

-- The hints of one entry, in order; `None` if its function has no body, or if no operator begins at the offset of a
-- hint.
abbrev pub entry_hints : ℕ → List PlacedFunction → FunctionHints → Option (List OperatorHint)
entry_hints imports fs e = body_at imports fs e.function >>= λ b. each (hint_in e.function b) e.hints

-- The hints of entries, in order. None if an entry is not that of a function with a body, or if a hint is not that
-- of an operator before the last `end`.
abbrev pub all_hints : ℕ → List PlacedFunction → List FunctionHints → Option (List OperatorHint)
all_hints imports fs [] = Some []
all_hints imports fs (e ∷ es) = entry_hints imports fs e >>= λ hs. all_hints imports fs es >>= λ rest. Some (hs ++ rest)

-- The numbers increase.
abbrev pub rise : List ℕ → Bool
rise [] = true
rise (a ∷ []) = true
rise (a ∷ b ∷ bs) = nat_lt a b && rise (b ∷ bs)

-- The offsets of the hints of each entry increase.
abbrev pub offsets_rise : List FunctionHints → Bool
offsets_rise [] = true
offsets_rise (e ∷ es) = rise (map (λ h. h.value.offset) e.hints) && offsets_rise es

-- The hints of a module, if they are valid: the functions of its last hint section are defined and increase, and in
-- each function the offsets are those of operators and increase.
abbrev pub module_hints : PlacedModule → Option (List OperatorHint)
module_hints m =
    let es : List FunctionHints = hints_of m.customs in
    if rise (map (λ e. e.function) es) && offsets_rise es
    then all_hints (length (imported_types func_import (without_places m.imports))) m.functions es else None
