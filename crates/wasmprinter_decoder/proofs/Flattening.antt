-- The types of groups, one group after the other.
use Rattle.std.proofs.Common.{◌≡◌, ℕ, ◌+◌, ◌<◌, ◌≤◌, get_or, drop, List, [], ◌++◌, length, sym, ap, ◌∙◌}
use Rattle.std.proofs.Math.ListN.{drop_of_length-le}
use Rattle.std.proofs.lemmas.List.{at_drop_more}
use Rattle.wasmprinter_spec.specs.Grammar.{Placed}
use Rattle.wasmprinter_spec.specs.Types.{SubType, all_types}
use Rattle.wasmprinter_spec.specs.Placed.{TypeGroup}
use Rattle.wasmprinter_spec.specs.Module.{groups_of}

-- The types of the groups from position i on.
abbrev pub types_from : List (Placed TypeGroup) → ℕ → List SubType
types_from gs i = all_types (groups_of (drop i gs))

-- The types of the next group, followed by those of the groups after it.
pub types_from-next : (gs : List (Placed TypeGroup)) (i : ℕ) (g d : Placed TypeGroup) → i < length gs → g ≡ get_or gs i d → types_from gs i ≡ g.value.types ++ types_from gs (i + 1)
types_from-next gs i g d lt is =
    at_drop_more (λ (xs : List (Placed TypeGroup)). all_types (groups_of xs)) gs i d lt ∙ ap (λ (x : Placed TypeGroup). x.value.types ++ types_from gs (i + 1)) (sym is)

-- If no groups remain, no types remain.
pub types_from-end : (gs : List (Placed TypeGroup)) (i : ℕ) → length gs ≤ i → types_from gs i ≡ []
types_from-end gs i le = ap (λ (xs : List (Placed TypeGroup)). all_types (groups_of xs)) (drop_of_length-le gs le)
