-- The combined contents of sections in order.
use Rattle.std.proofs.Common.{◌≡◌, ℕ, ◌<◌, ◌≤◌, lit≤, true, List, [], ◌∷◌, ◌++◌, length, Option, Some, None, refl, sym, ap, subst, ◌∙◌, arith, append-nil}
use Rattle.std.specs.Prelude.{Bool, false, if◌then◌else◌}
use Rattle.std.specs.Option.{option_or}
use Rattle.std.specs.List.{AllByRecursion}
use Rattle.wasmprinter_spec.specs.Grammar.{Placed}
use Rattle.wasmprinter_spec.specs.Placed.{Custom, CustomEntry, custom_entry}
use Rattle.wasmprinter_spec.specs.Sections.{CustomSection, TypeSection, ImportSection, FunctionSection, TableSection, MemorySection, TagSection, GlobalSection}
use Rattle.wasmprinter_spec.specs.Sections.{ExportSection, StartSection, ElementSection, DataCountSection, CodeSection, DataSection}
use Rattle.wasmprinter_spec.specs.Sections.{Kind, Section, holds, section_kind, content_of, are_above, has_fields, kind_after, with_custom, customs_after}
use Rattle.wasmprinter_spec.specs.Binary.{type_indices_in, tables_in, bodies_in}
use Rattle.wasmprinter_spec.specs.Limits.{most_functions}
use Rattle.wasmprinter_spec.proofs.Ordered.{with_one, held_push, held_each, held_midst, held_picked}
use Rattle.wasmprinter_decoder.specs.Refusals.{HasFew, FirstIsOver, FirstIsEmpty}
use Rattle.wasmprinter_decoder.specs.Contents.{HasNoEmpty, IsSectionWithinLimits, HasCount, HasOver, HasEmpty, item_count}
use Rattle.wasmprinter_decoder.specs.declared.custom_section_positions.SectionKind.{SectionKind}
use Rattle.wasmprinter_decoder.specs.Places.{after_view}
use Rattle.wasmprinter_decoder.specs.Gathering.{Gathered, none_gathered, Kept, gathered_items, section_items, with_section, IsHeld, item_count_in}

-- ---- custom sections

-- If a section has fields, then its kind replaces the kind of the sections before it.
joined : (b : Bool) (kind : Kind) (last r : Option SectionKind) → after_view r ≡ (if b then Some kind else None) → after_view (option_or r last) ≡ (if b then Some kind else after_view last)
joined true kind last None e = absurd cc
joined true kind last (Some k) e = e
joined false kind last None e = refl
joined false kind last (Some k) e = absurd cc

-- Custom sections after a section follow its kind, if it has fields, or else the kind that was the last before it.
pub kind_joined : (last r : Option SectionKind) (s : Section) → after_view r ≡ kind_after None s → after_view (option_or r last) ≡ kind_after (after_view last) s
kind_joined last r (holds kind x) e = joined (has_fields kind x) kind last r e

-- The kind of the last of the sections that has fields, or `last` if none has.
abbrev pub last_kind : Option Kind → List Section → Option Kind
last_kind last [] = last
last_kind last (s ∷ ss) = last_kind (kind_after last s) ss

-- The last kind of the sections and one more is the kind after this one, if the last kind of the sections was before it.
pub last_kind_push : (last : Option Kind) (ss : List Section) (s : Section) → last_kind last (ss ++ s ∷ []) ≡ kind_after (last_kind last ss) s
last_kind_push last [] s = refl
last_kind_push last (x ∷ xs) s = last_kind_push (kind_after last x) xs s

front_push : (last : Option Kind) (o : Option (Placed Custom)) (cs ds more : List CustomEntry) → ds ≡ cs ++ more → with_custom last o ds ≡ with_custom last o cs ++ more
front_push last None cs ds more e = e
front_push last (Some c) cs ds more e = ap (λ (xs : List CustomEntry). custom_entry last c ∷ xs) e

front_length : (last : Option Kind) (o : Option (Placed Custom)) (cs : List CustomEntry) → length cs ≤ length (with_custom last o cs)
front_length last None cs = omega arith
front_length last (Some c) cs = omega arith

-- The custom sections of a list and one more section are those of the list and that of the section.
customs_push : (last : Option Kind) (ss : List Section) (s : Section) → customs_after last (ss ++ s ∷ []) ≡ customs_after last ss ++ customs_after (last_kind last ss) (s ∷ [])
customs_push last [] s = refl
customs_push last (x ∷ xs) s =
    let next : Option Kind = kind_after last x in
    front_push last (content_of CustomSection x) (customs_after next xs) (customs_after next (xs ++ s ∷ [])) (customs_after (last_kind next xs) (s ∷ [])) (customs_push next xs s)

-- If a list of sections contains a custom section, then the list of its custom sections is not empty.
customs_midst : (last : Option Kind) (xs : List Section) (c : Placed Custom) (ys : List Section) → 0 < length (customs_after last (xs ++ holds CustomSection c ∷ ys))
customs_midst last [] c ys = omega arith
customs_midst last (x ∷ xs) c ys =
    let rest : List CustomEntry = customs_after (kind_after last x) (xs ++ holds CustomSection c ∷ ys) in
    omega (arith, customs_midst (kind_after last x) xs c ys, front_length last (content_of CustomSection x) rest)

-- A section of the kind of custom sections is a custom section.
pub custom_kind : (s : Section) → section_kind s ≡ CustomSection → (c : Placed Custom) × (s ≡ holds CustomSection c)
custom_kind (holds CustomSection c) e = (c, refl)
custom_kind (holds _ x) e = absurd cc

-- ---- contents of each kind

-- Before the first section the kept contents are those of no sections.
pub kept_none : (kind : Kind) → gathered_items kind none_gathered ≡ section_items kind []
kept_none CustomSection = refl
kept_none _ = refl

-- The contents that are kept for a kind after one more section. `last` is the kind that custom sections before it follow.
abbrev pub kept_with : (kind : Kind) → Option Kind → Kept kind → Section → Kept kind
kept_with CustomSection last cs s = cs ++ customs_after last (s ∷ [])
kept_with kind last c s = with_one kind c s

-- The contents of a list of sections and one more section are those of the list, changed by that section.
pub kept_push : (kind : Kind) (ss : List Section) (s : Section) → section_items kind (ss ++ s ∷ []) ≡ kept_with kind (last_kind None ss) (section_items kind ss) s
kept_push CustomSection ss s = customs_push None ss s
kept_push kind ss s = held_push kind (gathered_items kind none_gathered) ss s

-- A section replaces the content that is kept for its kind. A custom section is appended to the custom sections.
-- Other kinds are unchanged.
pub kept_added : (kind : Kind) (g : Gathered) (s : Section) → gathered_items kind (with_section g s) ≡ kept_with kind g.after (gathered_items kind g) s
kept_added CustomSection g (holds CustomSection x) = refl
kept_added CustomSection g (holds _ x) = sym (append-nil g.customs)
kept_added TypeSection g (holds TypeSection x) = refl
kept_added ImportSection g (holds ImportSection x) = refl
kept_added FunctionSection g (holds FunctionSection x) = refl
kept_added TableSection g (holds TableSection x) = refl
kept_added MemorySection g (holds MemorySection x) = refl
kept_added TagSection g (holds TagSection x) = refl
kept_added GlobalSection g (holds GlobalSection x) = refl
kept_added ExportSection g (holds ExportSection x) = refl
kept_added StartSection g (holds StartSection x) = refl
kept_added ElementSection g (holds ElementSection x) = refl
kept_added DataCountSection g (holds DataCountSection x) = refl
kept_added CodeSection g (holds CodeSection x) = refl
kept_added DataSection g (holds DataSection x) = refl
kept_added _ g _ = refl

-- If one of the sections in order has an item, then together they have one.
pub some_midst : (xs : List Section) (s : Section) (ys : List Section) → are_above 0 (xs ++ s ∷ ys) ≡ true → 0 < item_count s → 0 < item_count_in (xs ++ s ∷ ys)
some_midst xs (holds CustomSection x) ys up some = omega (arith, customs_midst None xs x ys)
some_midst xs (holds TypeSection x) ys up some = omega (arith, ap length (held_midst TypeSection 1 refl [] 0 xs x ys up))
some_midst xs (holds ImportSection x) ys up some = omega (arith, ap length (held_midst ImportSection 2 refl [] 0 xs x ys up))
some_midst xs (holds FunctionSection x) ys up some = omega (arith, ap length (held_midst FunctionSection 3 refl [] 0 xs x ys up))
some_midst xs (holds TableSection x) ys up some = omega (arith, ap length (held_midst TableSection 4 refl [] 0 xs x ys up))
some_midst xs (holds MemorySection x) ys up some = omega (arith, ap length (held_midst MemorySection 5 refl [] 0 xs x ys up))
some_midst xs (holds TagSection x) ys up some = omega (arith, ap length (held_midst TagSection 6 refl [] 0 xs x ys up))
some_midst xs (holds GlobalSection x) ys up some = omega (arith, ap length (held_midst GlobalSection 7 refl [] 0 xs x ys up))
some_midst xs (holds ExportSection x) ys up some = omega (arith, ap length (held_midst ExportSection 8 refl [] 0 xs x ys up))
some_midst xs (holds StartSection x) ys up some = absurd (omega (arith, some))
some_midst xs (holds ElementSection x) ys up some = omega (arith, ap length (held_midst ElementSection 10 refl [] 0 xs x ys up))
some_midst xs (holds DataCountSection x) ys up some = absurd (omega (arith, some))
some_midst xs (holds CodeSection x) ys up some = omega (arith, ap length (held_midst CodeSection 12 refl [] 0 xs x ys up))
some_midst xs (holds DataSection x) ys up some = omega (arith, ap length (held_midst DataSection 13 refl [] 0 xs x ys up))

-- ---- limits

-- The type indices of sections in order are those of the only function section.
pub count_midst : (count : ℕ) (xs : List Section) (s : Section) (ys : List Section) → are_above 0 (xs ++ s ∷ ys) ≡ true → HasCount count s → length (type_indices_in (xs ++ s ∷ ys)) ≡ count
count_midst count xs s ys up (indices, held, counted) =
    ap length (held_picked FunctionSection 3 refl [] 0 xs s indices ys held up) ∙ counted

-- The bodies of sections in order are those of the only code section.
pub over_midst : (place : ℕ) (xs : List Section) (s : Section) (ys : List Section) → are_above 0 (xs ++ s ∷ ys) ≡ true → HasOver place s → FirstIsOver place (bodies_in (xs ++ s ∷ ys))
over_midst place xs s ys up (bodies, held, over) =
    subst (FirstIsOver place) (sym (held_picked CodeSection 12 refl [] 0 xs s bodies ys held up)) over

-- The tables of sections in order are those of the only table section.
pub empty_midst : (place : ℕ) (xs : List Section) (s : Section) (ys : List Section) → are_above 0 (xs ++ s ∷ ys) ≡ true → HasEmpty place s
    → FirstIsEmpty place (tables_in (xs ++ s ∷ ys))
empty_midst place xs s ys up (tables, held, empty) =
    subst (FirstIsEmpty place) (sym (held_picked TableSection 4 refl [] 0 xs s tables ys held up)) empty

-- The numbers of locals in each body and of functions are within the limits, and no table has an empty initialiser.
pub record HoldsFew (g : Gathered) : Type 0 where
  pub functions : length g.type_indices ≤ most_functions
  pub tables : AllByRecursion HasNoEmpty g.tables
  pub locals : AllByRecursion HasFew g.bodies

-- If all sections are within the limits, then so are the gathered contents.
pub few_held : (g : Gathered) (ss : List Section) → AllByRecursion IsSectionWithinLimits ss → IsHeld g ss → HoldsFew g
few_held g ss small held = record {
  functions = subst (λ (is : List ℕ). length is ≤ most_functions) (sym (held FunctionSection)) (held_each FunctionSection IsSectionWithinLimits [] ss small (lit≤ tt));
  tables = subst (AllByRecursion HasNoEmpty) (sym (held TableSection)) (held_each TableSection IsSectionWithinLimits [] ss small tt);
  locals = subst (AllByRecursion HasFew) (sym (held CodeSection)) (held_each CodeSection IsSectionWithinLimits [] ss small tt);
}
