-- Pieces that do not begin the first line.
use Rattle.std.proofs.Common.{◌≡◌, ℕ, ◌+◌, List, [], ◌∷◌, ◌++◌, Bool, true, false, cond, Option, Some, None, ◌||◌}
use Rattle.std.specs.List.{AllByRecursion, flat_map}
use Rattle.wasmprinter_spec.specs.Piece.{Piece, Begin, Break}
use Rattle.wasmprinter_spec.specs.Layout.Groups.{has_break, close, group, group_space, group_at, group_space_at, numbered_pieces}
use Rattle.wasmprinter_spec.proofs.Each.{all_both}
use Rattle.wasmprinter_spec.proofs.OneLine.{starts, IsOneLine}

-- The piece does not begin the first line. It may begin another.
abbrev pub IsNoBegin : Piece → Type 0
IsNoBegin (Begin place) = ⊥
IsNoBegin _ = Unit {0}

-- None of the pieces begins the first line.
pub record HasNoBegin (ps : List Piece) : Type 0 where
  pub each : AllByRecursion IsNoBegin ps

pub nothing_none : HasNoBegin []
nothing_none = record { each = tt }

pub both_none : {ps qs : List Piece} → HasNoBegin ps → HasNoBegin qs → HasNoBegin (ps ++ qs)
both_none {ps} {qs} h k = record { each = all_both IsNoBegin ps qs h.each k.each }

-- If neither a piece nor those after it begin the first line, neither do they together.
pub then_none : {p : Piece} {ps : List Piece} → IsNoBegin p → HasNoBegin ps → HasNoBegin (p ∷ ps)
then_none own h = record { each = (own, h.each) }

pub alone_none : {p : Piece} → IsNoBegin p → HasNoBegin (p ∷ [])
alone_none own = then_none own nothing_none

pub cond_none : {ps qs : List Piece} (b : Bool) → HasNoBegin ps → HasNoBegin qs → HasNoBegin (cond b ps qs)
cond_none true h k = h
cond_none false h k = k

-- Pieces that begin no line do not begin the first line.
each_stays : (ps : List Piece) → flat_map starts ps ≡ [] → AllByRecursion IsNoBegin ps
each_stays [] e = tt
each_stays (Begin place ∷ ps) e = absurd cc
each_stays (Break place nesting ∷ ps) e = absurd cc
each_stays (p ∷ ps) e = (tt, each_stays ps e)

pub line_none : {ps : List Piece} → IsOneLine ps → HasNoBegin ps
line_none {ps} h = record { each = each_stays ps h.begins }

-- A field does not begin the first line: its line starts with a break.
pub field_none : (place : Option ℕ) (nesting : ℕ) {ps : List Piece} → HasNoBegin ps → HasNoBegin (Break place nesting ∷ ps)
field_none place nesting h = then_none tt h

-- ---- groups

pub close_none : (place : Option ℕ) (nesting : ℕ) (b : Bool) → HasNoBegin (close place nesting b)
close_none place nesting true = then_none tt (alone_none tt)
close_none place nesting false = alone_none tt

pub group_none : (nesting : ℕ) (w : List ℕ) {ps : List Piece} → HasNoBegin ps → HasNoBegin (group nesting w ps)
unfolding group
group_none nesting w {ps} h = then_none tt (both_none h (close_none None nesting (has_break ps)))

pub group_space_none : (nesting : ℕ) (w : List ℕ) {ps : List Piece} → HasNoBegin ps → HasNoBegin (group_space nesting w ps)
unfolding group_space
group_space_none nesting w {ps} h = then_none tt (both_none h (close_none None nesting (has_break ps)))

pub group_at_none : (offsets : Bool) (place nesting : ℕ) (w : List ℕ) {ps : List Piece} → HasNoBegin ps → HasNoBegin (group_at offsets place nesting w ps)
unfolding group_at
group_at_none offsets place nesting w {ps} h = then_none tt (both_none h (close_none (Some place) nesting (offsets || has_break ps)))

pub group_space_at_none : (offsets : Bool) (place nesting : ℕ) (w : List ℕ) {ps : List Piece} → HasNoBegin ps →
    HasNoBegin (group_space_at offsets place nesting w ps)
unfolding group_space_at
group_space_at_none offsets place nesting w {ps} h = then_none tt (both_none h (close_none (Some place) nesting (offsets || has_break ps)))

pub numbered_none : {A : Type 0} (f : ℕ → A → List Piece) → ((i : ℕ) (x : A) → HasNoBegin (f i x)) → (i : ℕ) (xs : List A) →
    HasNoBegin (numbered_pieces f i xs)
unfolding numbered_pieces
numbered_none f h i [] = nothing_none
numbered_none f h i (x ∷ xs) = both_none (h i x) (numbered_none f h (i + 1) xs)
