-- The lines of groups of types, type by type and group by group.
use Rattle.std.specs.Prelude.{◌≡◌, ℕ, ◌+◌, ◌<◌, ◌≤◌, drop, List, [], ◌∷◌, ◌++◌, Bool, true, false, length, codes, refl}
use Rattle.std.proofs.Common.{sym, ap, ◌∙◌, get_or, length-append}
use Rattle.std.proofs.Math.ListN.{drop_of_length-le}
use Rattle.std.proofs.lemmas.List.{at_drop_more}
use Rattle.wasmprinter_spec.specs.Grammar.{Placed}
use Rattle.wasmprinter_spec.specs.Types.{SubType, all_types}
use Rattle.wasmprinter_spec.specs.Names.{Names}
use Rattle.wasmprinter_spec.specs.Placed.{TypeGroup}
use Rattle.wasmprinter_spec.specs.Module.{groups_of}
use Rattle.wasmprinter_spec.specs.Piece.{Piece}
use Rattle.wasmprinter_spec.specs.Layout.Groups.{group, numbered_pieces}
use Rattle.wasmprinter_spec.specs.Layout.Types.{group_pieces_by, type_group_pieces, type_section_pieces}
use Rattle.wasmprinter_module_text.specs.TypeLines.{listed_pieces}

-- ---- The types of a group

-- If no type is left, no piece is left.
pub types-none : (f : ℕ → SubType → List Piece) (i : ℕ) (ts : List SubType) → ts ≡ [] → numbered_pieces f i ts ≡ []
unfolding numbered_pieces
types-none f i ts e = ap (numbered_pieces f i) e

-- The pieces of types are those of the first type and those of the others.
pub types-next : (f : ℕ → SubType → List Piece) (i : ℕ) (ts rest : List SubType) (t : SubType) → ts ≡ t ∷ rest → numbered_pieces f i ts ≡ f i t ++ numbered_pieces f (i + 1) rest
unfolding numbered_pieces
types-next f i ts rest t e = ap (numbered_pieces f i) e

-- The pieces of a `rec` group are a group of those of its types.
pub group-written : (names : Names) (written : Bool) (place i : ℕ) (ts : List SubType) → written ≡ true →
    group_pieces_by names written place i ts ≡ group 1 (codes "rec") (numbered_pieces (listed_pieces names written place) i ts)
group-written names true place i ts e = refl
group-written names false place i ts e = absurd cc

-- The pieces of a group that is not written as a `rec` group are those of its types.
pub group-bare : (names : Names) (written : Bool) (place i : ℕ) (ts : List SubType) → written ≡ false → group_pieces_by names written place i ts ≡ numbered_pieces (listed_pieces names written place) i ts
group-bare names true place i ts e = absurd cc
group-bare names false place i ts e = refl

-- ---- Groups

-- The pieces after the first k groups are those of group k and those of the groups after it.
pub groups-next : (names : Names) (i k : ℕ) (gs : List (Placed TypeGroup)) (g d : Placed TypeGroup) → k < length gs → g ≡ get_or gs k d →
    type_section_pieces names i (drop k gs) ≡ type_group_pieces names i g ++ type_section_pieces names (i + length g.value.types) (drop (k + 1) gs)
unfolding type_section_pieces
groups-next names i k gs g d lt is =
    at_drop_more (type_section_pieces names i) gs k d lt
    ∙ ap (λ (x : Placed TypeGroup). type_group_pieces names i x ++ type_section_pieces names (i + length x.value.types) (drop (k + 1) gs)) (sym is)

-- If there are at most k groups, no piece is left after the first k.
pub groups-none : (names : Names) (i k : ℕ) (gs : List (Placed TypeGroup)) → length gs ≤ k → type_section_pieces names i (drop k gs) ≡ []
unfolding type_section_pieces
groups-none names i k gs le = ap (type_section_pieces names i) (drop_of_length-le gs le)

-- The number of types after the first k groups.
abbrev pub types_after : ℕ → List (Placed TypeGroup) → ℕ
types_after k gs = length (all_types (groups_of (drop k gs)))

-- That number is the sum of those in group k and in the groups after it.
pub after-next : (k : ℕ) (gs : List (Placed TypeGroup)) (g d : Placed TypeGroup) → k < length gs → g ≡ get_or gs k d →
    types_after k gs ≡ length g.value.types + types_after (k + 1) gs
after-next k gs g d lt is =
    at_drop_more (λ xs. length (all_types (groups_of xs))) gs k d lt ∙ length-append (get_or gs k d).value.types (all_types (groups_of (drop (k + 1) gs)))
    ∙ ap (λ (x : Placed TypeGroup). length x.value.types + types_after (k + 1) gs) (sym is)
