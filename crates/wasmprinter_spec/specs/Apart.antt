-- The places with which lines begin: those of the code section are in an interval of their own, and increase
-- there. The standard has neither lines nor places.
use Rattle.std.specs.Prelude.{ℕ, ◌+◌, ◌<◌, ◌≤◌, ◌⊎◌, List, [], ◌∷◌, ◌++◌, Bool, true, false, map, Option, Some, None}
use Rattle.std.specs.List.{AllByRecursion, flat_map}
use Rattle.wasmprinter_spec.specs.Grammar.{Placed}
use Rattle.wasmprinter_spec.specs.Types.{SubType}
use Rattle.wasmprinter_spec.specs.Placed.{TypeGroup, LocalEntry, Body, CustomEntry, PlacedModule}
use Rattle.wasmprinter_spec.specs.Customs.{CustomTreatment, ProducersFields, DylinkSubsections, custom_treatment_of}
use Rattle.wasmprinter_spec.specs.Layout.Functions.{locals_place}
use Rattle.wasmprinter_spec.specs.Lines.{places, hint_places}

-- The places increase, from `low` on and below `high`.
abbrev pub Rises : ℕ → List ℕ → ℕ → Type 0
Rises low [] high = low ≤ high
Rises low (p ∷ ps) high = (low ≤ p) × Rises (p + 1) ps high

-- p is outside the interval from `low` on and below `high`.
abbrev pub IsOutside : ℕ → ℕ → ℕ → Type 0
IsOutside low high p = (p < low) ⊎ (high ≤ p)

-- ---- Bodies

-- The list of the place, empty if there is none.
abbrev pub place_if_any : Option ℕ → List ℕ
place_if_any None = []
place_if_any (Some place) = place ∷ []

-- The place of the line of locals, if there are any.
abbrev pub locals_places : List (Placed LocalEntry) → List ℕ
locals_places es = place_if_any (locals_place es)

-- The places of a body: its first byte, its locals, its operators, its last byte.
abbrev pub body_places : Placed Body → List ℕ
body_places b = b.place ∷ (locals_places b.value.locals ++ (places b.value.operators ++ (b.value.end ∷ [])))

-- ---- All other places

-- The places of the lines of the types in a group that starts at `place`. All types of an explicit `(rec ..)` have
-- the same place. A single type by itself has no line of its own in the group.
abbrev pub member_places : Bool → ℕ → List SubType → List ℕ
member_places true place ts = map (λ t. place + 2) ts
member_places false place ts = []

-- The place of a group of types and, if it is an explicit `(rec ..)`, a place for each of its types.
abbrev pub group_places : Placed TypeGroup → List ℕ
group_places g = g.place ∷ member_places g.value.explicit g.place g.value.types

-- The place of the start function, if there is one.
abbrev pub start_places : Option (Placed ℕ) → List ℕ
start_places None = []
start_places (Some start) = start.place ∷ []

-- The values of `producers`, the subsections of `dylink.0`.
abbrev pub treatment_places : CustomTreatment → List ℕ
treatment_places (ProducersFields fields) = flat_map (λ f. places f.values) fields
treatment_places (DylinkSubsections subsections) = places subsections
treatment_places _ = []

-- A custom section, its data, and the lines within it.
abbrev pub custom_places : CustomEntry → List ℕ
custom_places c = c.section.place ∷ (c.section.value.bytes.place ∷ treatment_places (custom_treatment_of c.section.value))

-- The bodies are in an interval, from `low` on and below `high`, one after the other, and the places of each increase.
-- All other places that begin lines are outside the interval, as are the module's first byte and the end of its bytes.
pub record IsApart (m : PlacedModule) : Type 0 where
  pub low : ℕ
  pub high : ℕ
  pub first : 0 < low
  pub last : high ≤ m.size
  pub bodies : Rises low (flat_map (λ f. body_places f.body) m.functions) high
  pub types : AllByRecursion (IsOutside low high) (flat_map group_places m.types)
  pub imports : AllByRecursion (IsOutside low high) (places m.imports)
  pub tables : AllByRecursion (IsOutside low high) (places m.tables)
  pub memories : AllByRecursion (IsOutside low high) (places m.memories)
  pub tags : AllByRecursion (IsOutside low high) (places m.tags)
  pub globals : AllByRecursion (IsOutside low high) (places m.globals)
  pub exports : AllByRecursion (IsOutside low high) (places m.exports)
  pub start : AllByRecursion (IsOutside low high) (start_places m.start)
  pub elements : AllByRecursion (IsOutside low high) (places m.elements)
  pub data_segments : AllByRecursion (IsOutside low high) (places m.data_segments)
  pub customs : AllByRecursion (IsOutside low high) (flat_map custom_places m.customs)
  pub hints : AllByRecursion (IsOutside low high) (hint_places m)
