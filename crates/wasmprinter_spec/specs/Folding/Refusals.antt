-- What cannot be folded in a module: `try`, `catch`, `catch_all` and `delegate`, and branch hints on operators whose
-- node can't hold a hint. The standard does not define this: the rules are this printer's own. The first are called
-- legacy operators here. `rethrow`, of the same proposal, opens and closes nothing, and can be folded.
use Rattle.std.specs.Prelude.{◌≡◌, ℕ, ◌+◌, ◌-◌, List, [], ◌∷◌, ◌++◌, map, flat_map, Bool, true, false, cond, length, slice_get, Option, Some, None}
use Rattle.wasmprinter_spec.specs.Grammar.{Placed}
use Rattle.wasmprinter_spec.specs.Operator.{Operator}
use Rattle.wasmprinter_spec.specs.Row.{Role, Opens, Else, Ends}
use Rattle.wasmprinter_spec.specs.Table.{role_of}
use Rattle.wasmprinter_spec.specs.Customs.Hints.{Hint, FunctionHints, hints_of, hints_of_next, entries_after, next_hint, hints_after}
use Rattle.wasmprinter_spec.specs.Placed.{Table, ElementMode, Passive, Declared, Active, Items, Functions, Expressions, ElementEntry, PassiveData, ActiveData, Data, PlacedFunction, PlacedModule}
use Rattle.wasmprinter_spec.specs.Module.{without_places, imported_types, func_import}
use Rattle.wasmprinter_spec.specs.Options.{Options}
use Rattle.wasmprinter_spec.specs.Folding.Code.{is_try}

-- ---- The lists of operators that are printed

-- Operators with their places, in their flat order.
abbrev pub Operators : Type 0
Operators = List (Placed Operator)

-- The initialiser of a table, if it has one.
abbrev pub init_list : Placed (Table (Placed Operator)) → List Operators
init_list t = elim t.value.init as (λ i. List Operators) [ None ↦ [] | Some os ↦ os ∷ [] ]

-- The offset of an active element segment.
abbrev pub offset_list : ElementMode (Placed Operator) → List Operators
offset_list Passive = []
offset_list Declared = []
offset_list (Active t os) = os ∷ []

-- The items of an element segment that are expressions.
abbrev pub item_lists : Items (Placed Operator) → List Operators
item_lists (Functions is) = []
item_lists (Expressions t es) = es

-- The lists of an element segment. In a skeleton its items are not printed.
abbrev pub element_lists : Bool → Placed ElementEntry → List Operators
element_lists skeleton e = offset_list e.value.element.mode ++ cond skeleton [] (item_lists e.value.element.items)

-- The offset of an active data segment.
abbrev pub data_lists : Placed (Data (Placed Operator)) → List Operators
data_lists d = elim d.value.mode as (λ m. List Operators) [ PassiveData ↦ [] | ActiveData memory os ↦ os ∷ [] ]

-- The lists of constant expressions before the code section: in tables, globals and element segments.
abbrev pub lists_before_code : Options → PlacedModule → List Operators
lists_before_code o m = flat_map init_list m.tables ++ map (λ g. g.value.init) m.globals ++ flat_map (element_lists o.skeleton) m.elements

-- The lists of bodies. In a skeleton they are not printed.
abbrev pub body_lists : Options → PlacedModule → List Operators
body_lists o m = cond o.skeleton [] (map (λ f. f.body.value.operators) m.functions)

-- The lists of constant expressions after the code section: in data segments.
abbrev pub lists_after_code : PlacedModule → List Operators
lists_after_code m = flat_map data_lists m.data_segments

-- All lists that are printed, in the order of the bytes.
abbrev pub printed_lists : Options → PlacedModule → List Operators
printed_lists o m = lists_before_code o m ++ body_lists o m ++ lists_after_code m

-- ---- Legacy operators: `try`, `catch`, `catch_all`, `delegate`

-- The places of legacy operators in a list.
abbrev pub legacy_places_in : Operators → List ℕ
legacy_places_in [] = []
legacy_places_in (o ∷ os) = cond (is_try (role_of o.value.opcode)) (o.place ∷ legacy_places_in os) (legacy_places_in os)

-- The places of legacy operators in all lists that are printed, in the order of the bytes.
abbrev pub legacy_places : Options → PlacedModule → List ℕ
legacy_places o m = flat_map legacy_places_in (printed_lists o m)

-- The first legacy operator that is printed is at this place.
abbrev pub IsFirstLegacy : Options → PlacedModule → ℕ → Type 0
IsFirstLegacy o m place = slice_get (legacy_places o m) 0 ≡ Some place

-- ---- Hints

-- `block`, `loop`, `try_table`, `else` and `end` cannot have a hint if they are folded. This is a rule of this
-- printer. (An `end` has no node of its own. The layout has a place for a hint before the node of a block, but no
-- module with such a hint is printed. The standard's tools put hints on `if` and on branches.)
abbrev pub is_hintless : Role → Bool
is_hintless Opens = true
is_hintless Else = true
is_hintless Ends = true
is_hintless _ = false

-- The place of a misplaced hint: a hint of an operator that cannot have one.
abbrev pub place_if_misplaced : Role → Option (Placed Hint) → List ℕ
place_if_misplaced role None = []
place_if_misplaced role (Some h) = cond (is_hintless role) (h.place ∷ []) []

-- The places of misplaced hints in a body that begins at the place `body`.
abbrev pub misplaced_hints_in : ℕ → List (Placed Hint) → Operators → List ℕ
misplaced_hints_in body hs [] = []
misplaced_hints_in body hs (o ∷ os) =
    place_if_misplaced (role_of o.value.opcode) (next_hint (o.place - body) hs)
    ++ misplaced_hints_in body (hints_after (o.place - body) hs) os

-- The places of misplaced hints in functions from index i on.
abbrev pub misplaced_hints_from : List FunctionHints → ℕ → List PlacedFunction → List ℕ
misplaced_hints_from es i [] = []
misplaced_hints_from es i (f ∷ fs) =
    misplaced_hints_in f.body.place (hints_of_next i es) f.body.value.operators ++ misplaced_hints_from (entries_after i es) (i + 1) fs

-- The places of misplaced hints in all bodies that are printed.
abbrev pub misplaced_hints : Options → PlacedModule → List ℕ
misplaced_hints o m =
    cond o.skeleton []
    (misplaced_hints_from (hints_of m.customs) (length (imported_types func_import (without_places m.imports))) m.functions)

-- No legacy operator is printed, and the first misplaced hint that is printed is at this place.
-- The hints are in the order of the operators.
abbrev pub IsFirstMisplaced : Options → PlacedModule → ℕ → Type 0
IsFirstMisplaced o m place = (legacy_places o m ≡ []) × (slice_get (misplaced_hints o m) 0 ≡ Some place)

-- ---- Modules

-- If operators are folded, none is a legacy operator, and no hint is on an operator that cannot have one.
pub record IsFoldable (o : Options) (m : PlacedModule) : Type 0 where
  pub legacy : o.folds ≡ true → legacy_places o m ≡ []
  pub hints : o.folds ≡ true → misplaced_hints o m ≡ []
