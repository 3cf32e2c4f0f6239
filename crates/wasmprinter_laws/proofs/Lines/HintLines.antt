-- Properties of the places of hints hold for the hints that functions and operators take.
use Rattle.std.proofs.Common.{ℕ, ◌==◌, List, [], ◌∷◌, Bool, true, false, Option, Some, None}
use Rattle.std.specs.Prelude.{if◌then◌else◌}
use Rattle.std.specs.List.{AllByRecursion}
use Rattle.wasmprinter_spec.specs.Grammar.{Placed}
use Rattle.wasmprinter_spec.specs.Customs.Hints.{Hint, FunctionHints, hints_of_next, entries_after, next_hint, hints_after}
use Rattle.wasmprinter_spec.specs.Lines.{places, places_of_hints}
use Rattle.wasmprinter_spec.proofs.Each.{all_parts}
use Rattle.wasmprinter_laws.proofs.Lines.OperatorLines.{hint_lines}

module _ (Q : Option ℕ → Type 0) where
  -- The places of the hints have the property.
  abbrev pub OfHints : List (Placed Hint) → Type 0
  OfHints hs = AllByRecursion (λ p. Q (Some p)) (places hs)

  abbrev pub OfEntries : List FunctionHints → Type 0
  OfEntries es = AllByRecursion (λ p. Q (Some p)) (places_of_hints es)

  if_next : (b : Bool) (h : Placed Hint) → Q (Some h.place) → AllByRecursion Q (hint_lines (if b then Some h else None))
  if_next true h q = (q, tt)
  if_next false h q = tt

  if_after : (b : Bool) (h : Placed Hint) (hs : List (Placed Hint)) → OfHints (h ∷ hs) → OfHints (if b then hs else h ∷ hs)
  if_after true h hs all = all.1
  if_after false h hs all = all

  pub of_next_hint : (offset : ℕ) (hs : List (Placed Hint)) → OfHints hs → AllByRecursion Q (hint_lines (next_hint offset hs))
  of_next_hint offset [] all = tt
  of_next_hint offset (h ∷ hs) all = if_next (h.value.offset == offset) h all.0

  pub of_hint_after : (offset : ℕ) (hs : List (Placed Hint)) → OfHints hs → OfHints (hints_after offset hs)
  of_hint_after offset [] all = tt
  of_hint_after offset (h ∷ hs) all = if_after (h.value.offset == offset) h hs all

  if_hints : (b : Bool) (hs : List (Placed Hint)) → OfHints hs → OfHints (if b then hs else [])
  if_hints true hs all = all
  if_hints false hs all = tt

  if_entries : (b : Bool) (e : FunctionHints) (es : List FunctionHints) → OfEntries (e ∷ es) → OfEntries es → OfEntries (if b then es else e ∷ es)
  if_entries true e es all rest = rest
  if_entries false e es all rest = all

  pub of_next_hints : (i : ℕ) (es : List FunctionHints) → OfEntries es → OfHints (hints_of_next i es)
  of_next_hints i [] all = tt
  of_next_hints i (e ∷ es) all = if_hints (e.function == i) e.hints (all_parts (λ p. Q (Some p)) (places e.hints) (places_of_hints es) all).0

  pub of_hints_after : (i : ℕ) (es : List FunctionHints) → OfEntries es → OfEntries (entries_after i es)
  of_hints_after i [] all = tt
  of_hints_after i (e ∷ es) all = if_entries (e.function == i) e es all (all_parts (λ p. Q (Some p)) (places e.hints) (places_of_hints es) all).1
