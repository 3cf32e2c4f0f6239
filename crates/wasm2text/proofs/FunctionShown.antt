-- Each function of a module has a line in the module's text, and a defined function has one with the place of its body.
use Rattle.std.specs.Prelude.{◌≡◌, ◌⊎◌, ℕ, ◌+◌, ◌≤◌, List, [], ◌∷◌, ◌++◌, Bool, true, false, ◌||◌, Option, Some, None, map, length, slice_get, nat_le}
use Rattle.std.specs.List.{filter_map, flat_map, list_any}
use Rattle.std.proofs.Common.{refl, sym, ap, ◌∙◌, subst, zero, suc, arith, inl, inr}
use Rattle.std.proofs.lemmas.Bool.{and_from, and_parts, or_cases, le-leb, leb-true}
use Rattle.std.proofs.lemmas.List.Concat.{flat_map-append}
use Rattle.std.proofs.lemmas.List.Folds.{list_any-append}
use Rattle.wasmprinter_spec.specs.Grammar.{Placed}
use Rattle.wasmprinter_spec.specs.Kinds.{Kind, ImportSection, CodeSection}
use Rattle.wasmprinter_spec.specs.Types.{ExternType, FuncExtern, TableExtern, MemoryExtern, GlobalExtern, TagExtern}
use Rattle.wasmprinter_spec.specs.Customs.Hints.{FunctionHints, hints_of, hints_of_next, entries_after}
use Rattle.wasmprinter_spec.specs.Lines.{TextLine, lines_of, line_places, places}
use Rattle.wasmprinter_spec.specs.Apart.{Rises, locals_places, body_places, IsApart}
use Rattle.wasmprinter_spec.specs.Binary.{Spells}
use Rattle.wasmprinter_spec.specs.Options.{Options, Answers, with_color}
use Rattle.wasmprinter_spec.specs.Placed.{Import, PlacedFunction, PlacedModule}
use Rattle.wasmprinter_spec.specs.Layout.{layout, module_pieces, module_parts, parts_by, section_pieces, section_parts, section_order, refusal, early_scope}
use Rattle.wasmprinter_spec.specs.Layout.Customs.{parts_at}
use Rattle.wasmprinter_spec.specs.Piece.{Piece}
use Rattle.wasmprinter_spec.specs.Layout.Declarations.{Scope, scope_of_function}
use Rattle.wasmprinter_spec.specs.Layout.Functions.{function_group, function_pieces, functions_pieces}
use Rattle.wasmprinter_spec.specs.Layout.Imports.{no_numbers}
use Rattle.wasmprinter_spec.specs.Module.{func_import, imported_types, without_places}
use Rattle.wasmprinter_spec.proofs.OneLine.{starts}
use Rattle.wasmprinter_laws.proofs.Lines.BodyLines.{closing_lines}
use Rattle.wasmprinter_laws.proofs.Lines.CodeSection.{apart}
use Rattle.wasmprinter_laws.proofs.Lines.CustomLines.{part_starts, part_lines}
use Rattle.wasmprinter_laws.proofs.Lines.FieldLines.{placed_lines, imports_begin}
use Rattle.wasmprinter_laws.proofs.Lines.Indexes.{rises_each, rises_right}
use Rattle.wasmprinter_laws.proofs.Lines.ModuleLines.{own_names, own_parts, module_begins}
use Rattle.wasmprinter_laws.proofs.Lines.Starts.{places_of_pieces}
use Rattle.wasmprinter.specs.Lined.{HasLinesBy}
use Rattle.wasmprinter.specs.Printed.{no_claims}
use Rattle.wasm2text.specs.declared.function_search.PlaceRange.{PlaceRange}
use Rattle.wasm2text.specs.FunctionText.{only_place, import_range, body_range, function_ranges, is_in, any_in}

-- ---- Places in a range, among places of lines

-- One of the places is in the range.
abbrev some_in : PlaceRange → List (Option ℕ) → Bool
some_in range ls = list_any (is_in range) ls

or_right : (a b : Bool) → b ≡ true → (a || b) ≡ true
or_right true b e = refl
or_right false b e = e

in_left : (range : PlaceRange) (xs ys : List (Option ℕ)) → some_in range xs ≡ true → some_in range (xs ++ ys) ≡ true
in_left range xs ys e = list_any-append (is_in range) xs ys ∙ ap (λ (b : Bool). b || some_in range ys) e

in_right : (range : PlaceRange) (xs ys : List (Option ℕ)) → some_in range ys ≡ true → some_in range (xs ++ ys) ≡ true
in_right range xs ys e = list_any-append (is_in range) xs ys ∙ or_right (some_in range xs) (some_in range ys) e

of_lines : (range : PlaceRange) (lines : List TextLine) → any_in range lines ≡ some_in range (line_places lines)
of_lines range [] = refl
of_lines range (line ∷ lines) = ap (λ (b : Bool). is_in range line.0 || b) (of_lines range lines)

-- The first place of a range is in it.
first_in : (first last : ℕ) → first ≤ last → is_in (record { first = first; last = last }) (Some first) ≡ true
first_in first last le = and_from (nat_le first first) (nat_le first last) (le-leb first first (omega arith)) (le-leb first last le)

then_first : (range : PlaceRange) (place : Option ℕ) (others : List (Option ℕ)) → is_in range place ≡ true → some_in range (place ∷ others) ≡ true
then_first range place others e = ap (λ (b : Bool). b || some_in range others) e

-- A range that includes another one has a place among its own if the other has one.
module _ (a b : PlaceRange) (first : b.first ≤ a.first) (last : a.last ≤ b.last) where
  is_in_wider : (place : Option ℕ) → is_in a place ≡ true → is_in b place ≡ true
  is_in_wider None e = e
  is_in_wider (Some p) e =
      let both = and_parts (nat_le a.first p) (nat_le p a.last) e in
      let low : a.first ≤ p = leb-true a.first p both.0 in
      let high : p ≤ a.last = leb-true p a.last both.1 in
      and_from (nat_le b.first p) (nat_le p b.last) (le-leb b.first p (omega (arith, first, low))) (le-leb p b.last (omega (arith, last, high)))

  any_in_wider : (lines : List TextLine) → any_in a lines ≡ true → any_in b lines ≡ true
  any_in_wider [] e = e
  any_in_wider (line ∷ lines) e =
      elim (or_cases (is_in a line.0) (any_in a lines) e) [
        | inl here ↦ ap (λ (t : Bool). t || any_in b lines) (is_in_wider line.0 here)
        | inr later ↦ or_right (is_in b line.0) (any_in b lines) (any_in_wider lines later)
      ]

-- ---- Imports

no_range : {A : Type 0} (n : ℕ) (r : A) → slice_get {X = A} [] n ≡ Some r → ⊥
no_range n r e = cc

same_value : {A : Type 0} (a b : A) → ◌≡◌ {A = Option A} (Some a) (Some b) → a ≡ b
same_value a b e = cc

only_in : (place : ℕ) (range : PlaceRange) → ◌≡◌ {A = Option PlaceRange} (Some (only_place place)) (Some range) → is_in range (Some place) ≡ true
only_in place range e = subst (λ (r : PlaceRange). is_in r (Some place) ≡ true) (same_value (only_place place) range e) (first_in place place (omega arith))

by_type : (i : Placed Import) (is : List (Placed Import)) (t : ExternType) (n : ℕ) (range : PlaceRange) → i.value.type ≡ t →
    ((k : ℕ) → slice_get (filter_map import_range is) k ≡ Some range → some_in range (placed_lines is) ≡ true) →
    slice_get (filter_map import_range (i ∷ is)) n ≡ Some range → some_in range (placed_lines (i ∷ is)) ≡ true
by_type i is (FuncExtern k) zero range e others h = then_first range (Some i.place) (placed_lines is) (only_in i.place range (rw e at h))
by_type i is (FuncExtern k) (suc n) range e others h = or_right (is_in range (Some i.place)) (some_in range (placed_lines is)) (others n (rw e at h))
by_type i is (TableExtern x) n range e others h = or_right (is_in range (Some i.place)) (some_in range (placed_lines is)) (others n (rw e at h))
by_type i is (MemoryExtern x) n range e others h = or_right (is_in range (Some i.place)) (some_in range (placed_lines is)) (others n (rw e at h))
by_type i is (GlobalExtern x) n range e others h = or_right (is_in range (Some i.place)) (some_in range (placed_lines is)) (others n (rw e at h))
by_type i is (TagExtern k) n range e others h = or_right (is_in range (Some i.place)) (some_in range (placed_lines is)) (others n (rw e at h))

imports_have : (is : List (Placed Import)) (n : ℕ) (range : PlaceRange) → slice_get (filter_map import_range is) n ≡ Some range → some_in range (placed_lines is) ≡ true
imports_have [] n range h = absurd (no_range n range h)
imports_have (i ∷ is) n range h = by_type i is i.value.type n range refl (λ k e. imports_have is k range e) h

-- ---- Defined functions

-- A body ends after its first byte.
body_ends : (low high : ℕ) (f : PlacedFunction) → Rises low (body_places f.body) high → f.body.place ≤ f.body.value.end
body_ends low high f h =
    let last : Rises (f.body.place + 1) (f.body.value.end ∷ []) high =
    rises_right (f.body.place + 1) high (places f.body.value.operators) (f.body.value.end ∷ [])
    (rises_right (f.body.place + 1) high (locals_places f.body.value.locals) (places f.body.value.operators ++ (f.body.value.end ∷ [])) h.1) in
    omega (arith, last.0)

-- The function with this range.
function_of_range : (fs : List PlacedFunction) (n : ℕ) (range : PlaceRange) → slice_get (map body_range fs) n ≡ Some range →
    (f : PlacedFunction) × (slice_get fs n ≡ Some f) × (body_range f ≡ range)
function_of_range [] n range h = absurd (no_range n range h)
function_of_range (f ∷ fs) zero range h = (f, refl, same_value (body_range f) range h)
function_of_range (f ∷ fs) (suc n) range h = function_of_range fs n range h

-- The header of a function has the place of its body.
module _ (o : Options) (s : Scope) (f : PlacedFunction) where
  functions_have : (es : List FunctionHints) (k : ℕ) (fs : List PlacedFunction) (n : ℕ) → slice_get fs n ≡ Some f →
      some_in (only_place f.body.place) (flat_map starts (functions_pieces o s es k fs)) ≡ true
  unfolding functions_pieces function_pieces
  functions_have es k [] n h = absurd (no_range n f h)
  functions_have es k (g ∷ fs) zero h =
      let range : PlaceRange = only_place f.body.place in
      let here : is_in range (Some g.body.place) ≡ true =
      subst (λ (x : PlacedFunction). is_in range (Some x.body.place) ≡ true) (sym (same_value g f h)) (first_in f.body.place f.body.place (omega arith)) in
      let group : List Piece = function_group o.skeleton o.offsets (scope_of_function s k) (hints_of_next k es) g in
      then_first range (Some g.body.place) (flat_map starts (group ++ functions_pieces o s (entries_after k es) (k + 1) fs)) here
  functions_have es k (g ∷ fs) (suc n) h =
      let range : PlaceRange = only_place f.body.place in
      let own = function_pieces o s k (hints_of_next k es) g in
      let rest = functions_pieces o s (entries_after k es) (k + 1) fs in
      subst (λ (ls : List (Option ℕ)). some_in range ls ≡ true) (sym (flat_map-append starts own rest))
      (in_right range (flat_map starts own) (flat_map starts rest) (functions_have (entries_after k es) (k + 1) fs n h))

-- ---- All functions

of_either : (xs ys : List PlaceRange) (n : ℕ) (range : PlaceRange) → slice_get (xs ++ ys) n ≡ Some range →
    (slice_get xs n ≡ Some range) ⊎ ((k : ℕ) × (slice_get ys k ≡ Some range))
of_either [] ys n range h = inr (n, h)
of_either (x ∷ xs) ys zero range h = inl h
of_either (x ∷ xs) ys (suc n) range h = of_either xs ys n range h

module _ (o : Options) (answers : Answers) (m : PlacedModule) (range : PlaceRange) where
  -- The sections have what the section of one of these kinds has.
  sections_have : (s : Scope) (kinds : List Kind) (i : ℕ) (kind : Kind) → slice_get kinds i ≡ Some kind →
      some_in range (flat_map starts (section_pieces o s m kind)) ≡ true → some_in range (part_lines (flat_map (section_parts o s m answers) kinds)) ≡ true
  sections_have s [] i kind e h = absurd (no_range i kind e)
  sections_have s (k ∷ kinds) zero kind e h =
      let same : k ≡ kind = cc in
      let fields : some_in range (flat_map starts (section_pieces o s m k)) ≡ true =
      subst (λ (x : Kind). some_in range (flat_map starts (section_pieces o s m x)) ≡ true) (sym same) h in
      in_left range (flat_map starts (section_pieces o s m k))
      (part_lines (parts_at o.skeleton answers (Some k) 0 m.customs ++ flat_map (section_parts o s m answers) kinds)) fields
  sections_have s (k ∷ kinds) (suc i) kind e h =
      subst (λ (ls : List (Option ℕ)). some_in range ls ≡ true)
      (sym (flat_map-append part_starts (section_parts o s m answers k) (flat_map (section_parts o s m answers) kinds)))
      (in_right range (part_lines (section_parts o s m answers k)) (part_lines (flat_map (section_parts o s m answers) kinds))
      (sections_have s kinds i kind e h))

  parts_have : (i : ℕ) (kind : Kind) → slice_get section_order i ≡ Some kind →
      some_in range (flat_map starts (section_pieces o (early_scope o (own_names o answers m) m) m kind)) ≡ true →
      some_in range (part_lines (own_parts o answers m)) ≡ true
  unfolding module_parts parts_by
  parts_have i kind e h =
      let s = early_scope o (own_names o answers m) m in
      let first = parts_at o.skeleton answers None 0 m.customs in
      let others = flat_map (section_parts o s m answers) section_order in
      subst (λ (ls : List (Option ℕ)). some_in range ls ≡ true) (sym (flat_map-append part_starts first others))
      (in_right range (part_lines first) (part_lines others) (sections_have s section_order i kind e h))

  module_has : refusal o answers m ≡ None → some_in range (part_lines (own_parts o answers m)) ≡ true → any_in range (lines_of (layout o answers m)) ≡ true
  unfolding layout
  module_has accepted h =
      let begins = module_begins o answers m accepted in
      let parts : List (Option ℕ) = part_lines (own_parts o answers m) in
      let last : List (Option ℕ) = closing_lines m.size begins.0 in
      of_lines range (lines_of (layout o answers m))
      ∙ ap (some_in range) (places_of_pieces o (module_pieces o answers m) ∙ begins.1)
      ∙ or_right (is_in range (Some 0)) (some_in range ((parts ++ last) ++ [])) (in_left range (parts ++ last) [] (in_left range parts last h))

module _ (o : Options) (answers : Answers) (m : PlacedModule) where
  body_has : (f : PlacedFunction) (n : ℕ) → refusal o answers m ≡ None → slice_get m.functions n ≡ Some f →
      any_in (only_place f.body.place) (lines_of (layout o answers m)) ≡ true
  body_has f n accepted h =
      let range : PlaceRange = only_place f.body.place in
      let s = early_scope o (own_names o answers m) m in
      module_has o answers m range accepted (parts_have o answers m range 10 CodeSection refl
      (functions_have o s f (hints_of m.customs) (length (imported_types func_import (without_places m.imports))) m.functions n h))

  import_has : (range : PlaceRange) (n : ℕ) → refusal o answers m ≡ None → slice_get (filter_map import_range m.imports) n ≡ Some range →
      any_in range (lines_of (layout o answers m)) ≡ true
  import_has range n accepted h =
      let s = early_scope o (own_names o answers m) m in
      module_has o answers m range accepted (parts_have o answers m range 1 ImportSection refl
      (ap (some_in range) (imports_begin s no_numbers m.imports) ∙ imports_have m.imports n range h))

  layout_has : (bytes : List ℕ) (range : PlaceRange) (n : ℕ) → Spells bytes m → refusal o answers m ≡ None → slice_get (function_ranges m) n ≡ Some range →
      any_in range (lines_of (layout o answers m)) ≡ true
  layout_has bytes range n spells accepted h =
      elim (of_either (filter_map import_range m.imports) (map body_range m.functions) n range h) [
        | inl is ↦ import_has range n accepted is
        | inr is ↦
            let lines : List TextLine = lines_of (layout o answers m) in
            let a : IsApart m = apart bytes m spells in
            let own = function_of_range m.functions is.0 range is.1 in
            let f : PlacedFunction = own.0 in
            let ends : f.body.place ≤ f.body.value.end =
            body_ends a.low a.high f (rises_each (λ g. body_places g.body) m.functions a.low a.high is.0 f a.bodies own.1) in
            subst (λ (r : PlaceRange). any_in r lines ≡ true) own.2
            (any_in_wider (only_place f.body.place) (body_range f) (omega arith) (omega (arith, ends)) lines (body_has f is.0 accepted own.1))
      ]

-- A function that the module has, has a line.
pub function_has_line : (o : Options) (wasm old storage : List ℕ) (lines : List TextLine) (range : PlaceRange) (n : ℕ)
    (given : HasLinesBy o wasm old storage lines) → slice_get (function_ranges given.printed.decoded.placed) n ≡ Some range → any_in range lines ≡ true
function_has_line o wasm old storage lines range n given h =
    ap (any_in range) given.are
    ∙ layout_has (with_color o false) no_claims given.printed.decoded.placed wasm range n given.printed.decoded.spelled given.printed.accepted h

-- A function that the module defines has a line with the place of the first byte of its body.
pub body_has_line : (o : Options) (wasm old storage : List ℕ) (lines : List TextLine) (f : PlacedFunction) (n : ℕ)
    (given : HasLinesBy o wasm old storage lines) → slice_get given.printed.decoded.placed.functions n ≡ Some f →
    any_in (only_place f.body.place) lines ≡ true
body_has_line o wasm old storage lines f n given h =
    ap (any_in (only_place f.body.place)) given.are
    ∙ body_has (with_color o false) no_claims given.printed.decoded.placed f n given.printed.accepted h
