-- The lengths of the shortest encodings of the data of custom sections: names, `producers` and `dylink.0` (tool
-- conventions), and branch hints (Code Metadata).
use Rattle.std.specs.Prelude.{◌≡◌, ◌==◌, ℕ, List, [], ◌++◌, map, ◌+◌, ◌-◌, ◌≤◌, length, Bool, true, false, Option, Some, refl}
use Rattle.std.proofs.Common.{sym, ap, ◌∙◌, arith, leb}
use Rattle.std.proofs.lemmas.List.{length-append}
use Rattle.wasmprinter_spec.specs.Grammar.{Grammar, Placed, byte, seq, map_value, value_with_place, choose, some_is}
use Rattle.wasmprinter_spec.specs.Choices.{tested}
use Rattle.wasmprinter_spec.specs.Sized.{take_bytes, alone, exactly}
use Rattle.wasmprinter_spec.specs.Name.{u32, name, vec}
use Rattle.wasmprinter_spec.specs.Names.Section.{association}
use Rattle.wasmprinter_spec.specs.Customs.Producers.{Value, Field, value, field}
use Rattle.wasmprinter_spec.specs.Customs.Dylink.{MemInfo, ExportInfo, ImportInfo, SubsectionContent, Sizes, Needed, Exports, Imports, Paths, Other, mem_info, export_info, import_info, content_by_id, is_known, content, subsection}
use Rattle.wasmprinter_spec.specs.Customs.Hints.{Hint, FunctionHints, flag, hint, at_most, most_hints, function_hints}
use Rattle.wasmprinter_hidden.specs.Lengths.{unsigned_len, list_len, bytes_len, association_len, field_value_len, field_len, mem_info_len, export_info_len, import_info_len, dylink_content_len, dylink_subsection_len, hint_len, function_hints_len}
use Rattle.wasmprinter_hidden.specs.Shortest.{fields_without_places, hints_without_places}
use Rattle.wasmprinter_hidden.proofs.Numbers.{unsigned_at_least, unsigned_up_to, digits_grow}
use Rattle.wasmprinter_hidden.proofs.Combinators.{Measured, Spelling, Under, same, are_joined, split_bytes, joined_length, one_length, map_measured, then_measured, vec_measured, list_measured, placed_measured, choose_measured, after_measured, same_measured, with_len, only_measured, byte_map_measured}
use Rattle.wasmprinter_hidden.proofs.Names.{u32_measured, name_measured}

-- ---- Names in name sections

pub association_measured : Measured same association.spells association_len
association_measured = then_measured u32_measured name_measured

-- ---- Producers

-- The value with this name and version.
abbrev value_of_parts : List ℕ × List ℕ → Value
value_of_parts x = record { name = x.0; version = x.1 }

value_measured : Measured same value.spells field_value_len
value_measured = map_measured value_of_parts (λ x. refl) (λ x y e. ap value_of_parts e) (then_measured name_measured name_measured)

-- The field with this name and these values.
abbrev field_of_parts : List ℕ × List (Placed Value) → Field
field_of_parts x = record { name = x.0; values = x.1 }

-- The field without the places of its values.
abbrev field_view : Field → List ℕ × List Value
field_view f = (f.name, map (λ v. v.value) f.values)

field_measured : Measured field_view field.spells field_len
field_measured =
    map_measured field_of_parts (λ x. refl) (λ x y e. e)
    (then_measured name_measured (vec_measured (value_with_place value) (placed_measured value_measured)))

pub fields_measured : Measured fields_without_places (vec field).spells (list_len field_len)
fields_measured = vec_measured field field_measured

-- ---- Dynamic linking: contents of subsections

-- The memory and table space of these numbers.
abbrev mem_info_of : ℕ × (ℕ × (ℕ × ℕ)) → MemInfo
mem_info_of x = record {
  memory_size = x.0;
  memory_alignment = x.1.0;
  table_size = x.1.1.0;
  table_alignment = x.1.1.1;
}

mem_info_measured : Measured same mem_info.spells mem_info_len
mem_info_measured =
    map_measured mem_info_of (λ x. omega arith) (λ x y e. ap mem_info_of e)
    (then_measured u32_measured (then_measured u32_measured (then_measured u32_measured u32_measured)))

-- The exported symbol of these parts.
abbrev export_info_of : List ℕ × ℕ → ExportInfo
export_info_of x = record { name = x.0; flags = x.1 }

export_info_measured : Measured same export_info.spells export_info_len
export_info_measured = map_measured export_info_of (λ x. refl) (λ x y e. ap export_info_of e) (then_measured name_measured u32_measured)

-- The imported symbol of these parts.
abbrev import_info_of : List ℕ × (List ℕ × ℕ) → ImportInfo
import_info_of x = record { source = x.0; name = x.1.0; flags = x.1.1 }

import_info_measured : Measured same import_info.spells import_info_len
import_info_measured =
    map_measured import_info_of (λ x. omega arith) (λ x y e. ap import_info_of e)
    (then_measured name_measured (then_measured name_measured u32_measured))

names_measured : Measured same (vec name).spells (list_len bytes_len)
names_measured = list_measured name name_measured

by_id_measured : (id : ℕ) → Measured same (content_by_id id).spells dylink_content_len
by_id_measured id =
    choose_measured (id == 1) _ _ (map_measured Sizes (λ m. refl) (λ x y e. ap Sizes e) mem_info_measured)
    (choose_measured (id == 2) _ _ (map_measured Needed (λ ns. refl) (λ x y e. ap Needed e) names_measured)
    (choose_measured (id == 3) _ _ (map_measured Exports (λ es. refl) (λ x y e. ap Exports e) (list_measured export_info export_info_measured))
    (choose_measured (id == 4) _ _ (map_measured Imports (λ es. refl) (λ x y e. ap Imports e) (list_measured import_info import_info_measured))
    (map_measured Paths (λ ns. refl) (λ x y e. ap Paths e) names_measured))))

-- ---- A size, and a value in that many bytes

-- The length of the value with its size.
abbrev sized_len : {A : Type 0} → (A → ℕ) → A → ℕ
sized_len l a = unsigned_len (l a) + l a

-- The bytes are n bytes, which encode the value by S.
abbrev OfSize : {A : Type 0} → Spelling A → ℕ → Spelling A
OfSize S n p text a = (length text ≡ n) × S p text a

sized_measured : {A B : Type 0} {v : A → B} {S : Spelling A} {l : A → ℕ} (h : ℕ → Grammar A) →
    ((n p : ℕ) (t : List ℕ) (a : A) → (h n).spells p t a → OfSize S n p t a) →
    ((n p : ℕ) (t : List ℕ) (a : A) → OfSize S n p t a → (h n).spells p t a) →
    Measured v S l → Measured v (map_value (λ x. x.1) (seq u32 h)).spells (sized_len l)
sized_measured {v = v} {l = l} h apart join m = record {
  at_least = λ p bytes a are s.
      let ((n, c), is, (t, u, joined, number, sized)) = s in
      let parts = split_bytes bytes t u joined are in
      let (size, spelled) = apart n (p + length t) u c sized in
      let some : unsigned_len n ≤ length t = unsigned_at_least 9 32 t n parts.0 number in
      let least : l c ≤ length u = m.at_least (p + length t) u c parts.1 spelled in
      let fewer : unsigned_len (l c) ≤ unsigned_len n = digits_grow 9 (l c) n (omega (arith, least, size)) in
      omega (arith, some, least, fewer, joined_length bytes t u joined, ap (sized_len l) (some_is c a is));
  one_has = λ p q bytes a are s.
      let ((n, c), is, (t, u, joined, number, sized)) = s in
      let parts = split_bytes bytes t u joined are in
      let (size, spelled) = apart n (p + length t) u c sized in
      let least : l c ≤ length u = m.at_least (p + length t) u c parts.1 spelled in
      let (count, are_count, counted, count_size) = unsigned_up_to 9 32 t n (l c) (omega arith) parts.0 number (omega (arith, least, size)) in
      let (short, b, are_short, shortly, alike, short_size) = m.one_has (p + length t) (q + length count) u c parts.1 spelled in
      let sum : length count + length short ≡ sized_len l c = omega (arith, count_size, short_size) in (
        count ++ short,
        b,
        are_joined count short are_count are_short,
        ((l c, b), refl, (count, short, refl, counted, join (l c) (q + length count) short b (short_size, shortly))),
        alike ∙ ap v (some_is c a is),
        length-append count short ∙ sum ∙ ap (sized_len l) (some_is c a is),
      );
}

-- ---- Dynamic linking: subsections

-- Any bytes encode the content of a subsection with this unknown id.
abbrev Unread : ℕ → Spelling SubsectionContent
Unread id p text c = ◌≡◌ {A = Option SubsectionContent} (Some (Other id)) (Some c)

unread_measured : (id : ℕ) → Measured same (Unread id) dylink_content_len
unread_measured id = record {
  at_least = λ p bytes c are s. let none : dylink_content_len c ≡ 0 = ap dylink_content_len (sym (some_is (Other id) c s)) in omega (arith, none);
  one_has = λ p q bytes c are s. ([], c, tt, s, refl, ap dylink_content_len (some_is (Other id) c s));
}

-- The content of a subsection by whether its id is known.
abbrev content_if : Bool → ℕ → ℕ → Grammar SubsectionContent
content_if known id size = choose known (exactly (alone (content_by_id id)) size) (map_value (λ _. Other id) (take_bytes size))

content_measured : (known : Bool) (id : ℕ) →
    Measured same (map_value (λ x. x.1) (seq u32 (content_if known id))).spells (sized_len dylink_content_len)
content_measured true id = sized_measured (content_if true id) (λ n p t c s. s) (λ n p t c s. s) (by_id_measured id)
content_measured false id =
    sized_measured (content_if false id) (λ n p t c s. let (b, is, (size, bytes)) = s in (size, is))
    (λ n p t c s. (t, s.1, (s.0, refl))) (unread_measured id)

-- The content of a subsection after its id.
abbrev content_after : ℕ → Grammar SubsectionContent
content_after id = map_value (λ x. x.1) (seq u32 (content id))

-- An id, a size and the content.
abbrev subsection_parts : Grammar SubsectionContent
subsection_parts = map_value (λ (_, (_, found)). found) (seq byte (λ id. seq u32 (λ size. content id size)))

parts_measured : Measured same subsection_parts.spells dylink_subsection_len
parts_measured =
    same_measured
    (λ p text c s.
    let ((id, d), is, (t, u, joined, first, ((size, e), same_content, others))) = s in
    ((id, (size, e)), same_content ∙ is, (t, u, joined, first, others)))
    (λ p text c s.
    let ((id, (size, d)), is, (t, u, joined, first, others)) = s in
    ((id, d), is, (t, u, joined, first, ((size, d), refl, others))))
    (after_measured content_after (λ c. omega arith)
    (λ id. with_len (λ c. dylink_subsection_len c - 1) (λ c. omega arith) (content_measured (is_known id) id)))

pub subsection_measured : Measured (λ s. s.value) subsection.spells (λ s. dylink_subsection_len s.value)
subsection_measured = placed_measured parts_measured

-- ---- Branch hints

-- The hint of these parts.
abbrev hint_of_parts : ℕ × (ℕ × Bool) → Hint
hint_of_parts x = record { offset = x.0; taken = x.1.1 }

hint_measured : Measured same hint.spells hint_len
hint_measured =
    map_measured hint_of_parts (λ x. omega arith) (λ x y e. ap hint_of_parts e)
    (then_measured u32_measured (then_measured (only_measured 1) (byte_map_measured flag)))

-- A list that `at_most` gives has no more elements than it says.
few_are : {A : Type 0} (n : ℕ) (xs ys : List A) → at_most n xs ≡ Some ys → (leb (length xs) n ≡ true) × (xs ≡ ys)
few_are n xs ys e = let (few, is) = tested (leb (length xs) n) (Some xs) ys e in (few, some_is xs ys is)

-- Lists with at most n elements.
few_measured : {A B : Type 0} {v : A → B} {S : Spelling (List A)} {l : List A → ℕ} (n : ℕ) → Measured (map v) S l →
    Measured (map v) (Under (at_most n) S) l
few_measured {A = A} {v = v} {l = l} n m = record {
  at_least = λ p bytes ys are s.
      let (xs, is, spelled) = s in
      let least : l xs ≤ length bytes = m.at_least p bytes xs are spelled in
      omega (arith, least, ap l (few_are n xs ys is).1);
  one_has = λ p q bytes ys are s.
      let (xs, is, spelled) = s in
      let (few, same_list) = few_are n xs ys is in
      let (short, zs, are_short, shortly, alike, size) = m.one_has p q bytes xs are spelled in
      let as_few : leb (length zs) n ≡ true = ap (λ (k : ℕ). leb k n) (one_length v zs xs alike) ∙ few in
      let kept : at_most n zs ≡ Some zs = rw as_few refl in
      (short, zs, are_short, (zs, kept, shortly), alike ∙ ap (map v) same_list, size ∙ ap l same_list);
}

-- The hints of the function with this index.
abbrev hints_of_parts : ℕ × List (Placed Hint) → FunctionHints
hints_of_parts x = record { function = x.0; hints = x.1 }

-- The hints of a function without their places.
abbrev hints_view : FunctionHints → ℕ × List Hint
hints_view e = (e.function, map (λ h. h.value) e.hints)

function_hints_measured : Measured hints_view function_hints.spells function_hints_len
function_hints_measured =
    map_measured hints_of_parts (λ x. refl) (λ x y e. e)
    (then_measured u32_measured (few_measured most_hints (vec_measured (value_with_place hint) (placed_measured hint_measured))))

pub hints_measured : Measured hints_without_places (vec function_hints).spells (list_len function_hints_len)
hints_measured = vec_measured function_hints function_hints_measured
