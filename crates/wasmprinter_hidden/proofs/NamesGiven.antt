-- The names that are read in the data of a name section are the entries that the data gives.
use Rattle.std.proofs.Common.{◌≡◌, ℕ, zero, suc, ◌+◌, ◌-◌, Bool, true, false, cond, not, ◌&&◌, ◌||◌, eqb, ltb, length, List, [], ◌∷◌, Option, Some, None, refl, sym, ap, ◌∙◌}
use Rattle.std.proofs.lemmas.Bool.{eqb-true}
use Rattle.wasmprinter_spec.specs.Grammar.{Input, input, Grammar, Placed, ◌>>=◌, bind_some, byte, map_value, seq, value_with_place}
use Rattle.wasmprinter_spec.specs.Choices.{tested}
use Rattle.wasmprinter_spec.specs.Repeated.{some_or}
use Rattle.wasmprinter_spec.specs.Sized.{take_bytes}
use Rattle.wasmprinter_spec.specs.Name.{u32, name}
use Rattle.wasmprinter_spec.specs.Lenient as lenient
use Rattle.wasmprinter_spec.specs.Lenient.{Lenient, give, follow, one, by_test, within, unless_ended, continue_with, read_after, read_inside, after_part}
use Rattle.wasmprinter_spec.specs.Placed.{PlacedModule}
use Rattle.wasmprinter_spec.specs.Names.Section as section
use Rattle.wasmprinter_spec.specs.Names.Section.{Entry, entry, entry_of, association, entries_by_id, indirect_map, is_indirect, module_subsection, tag_subsection}
use Rattle.wasmprinter_hidden.specs.Lengths.{unsigned_len, bytes_len}
use Rattle.wasmprinter_hidden.specs.Findings.{finding, if_longer}
use Rattle.wasmprinter_hidden.specs.HiddenNames.{Reading, reading, stop, passed, and_then, read_number, repeat, read_list, in_given, in_name, is_replaced, item_name, name_map, after_no_names, owned_names, inner_map, inner_count, item_count, module_name, content, at_end_of, known_subsection, is_empty_list, gives_no_names, subsection, next_subsection, NamesAreThoseGiven}
use Rattle.wasmprinter_hidden.specs.declared.finding.Part.{Part}
use Rattle.wasmprinter_hidden.specs.declared.finding.Part.TheVariants.{NameSubsection, NameCount, NameOwner, OwnerWithoutNames}
use Rattle.wasmprinter_hidden.specs.declared.finding.Finding.{Finding}

-- Entries, and the input after them, or `None` if there was an error.
abbrev Given : Type 0
Given = List Entry × Option Input

-- No entries, and this input.
abbrev no_entries : Option Input → Given
no_entries o = ([], o)

-- The names of a reading, and the input after them, or `None` if reading stopped.
abbrev given_by : Reading → Given
given_by r = (r.names, cond r.stopped None (Some r.left))

-- Both readings give the same names, and stop at the same places.
abbrev Agree : (Input → Reading) → Lenient Entry → Type 0
Agree read l = (at : Input) → given_by (read at) ≡ l.read at

-- ---- One reading after another

module _ (next : Input → Reading) (l : Lenient Entry) (rest : Input → Given) where
  then_given : (found : List Finding) (names : List Entry) (left : Input) (stopped : Bool) → given_by (next left) ≡ rest left →
      given_by (and_then (reading found names left stopped) next) ≡ continue_with l (given_by (reading found names left stopped)) rest
  then_given found names left true same = refl
  then_given found names left false same = ap (λ (g : Given). lenient.prepend l names g) same

module _ (read : Input → Reading) (l : Lenient Entry) (agree : Agree read l) where
  repeat_given : (n : ℕ) → Agree (repeat n read) (lenient.repeat l n)
  repeat_given zero at = refl
  repeat_given (suc n) at =
      let r : Reading = read at in
      then_given (repeat n read) l (lenient.repeat_at l n) r.found r.names r.left r.stopped (repeat_given n r.left)
      ∙ ap (λ (g : Given). continue_with l g (lenient.repeat_at l n)) (agree at)

-- ---- A value, and what depends on it

module _ (part : Part) (next : ℕ → Input → Reading) (h : ℕ → Lenient Entry) (agree : (n : ℕ) → Agree (next n) (h n)) where
  after_number : (at : Input) (o : Option (ℕ × Input)) →
      given_by (some_or o (stop at) (λ x. and_then (passed (if_longer part at.place x.1.place (unsigned_len x.0)) x.1) (next x.0))) ≡ read_after u32 h o
  after_number at None = refl
  after_number at (Some x) = agree x.0 x.1

  number_given : Agree (read_number part next) (follow u32 h)
  number_given at = after_number at (u32.parse at)

-- A count n, and then n times.
list_given : (read : Input → Reading) (l : Lenient Entry) → Agree read l → Agree (read_list read) (follow u32 (λ n. lenient.repeat l n))
list_given read l agree = number_given NameCount (λ n. repeat n read) (λ n. lenient.repeat l n) (λ n. repeat_given read l agree n)

module _ {A : Type 0} (g : Grammar A) (found : A × Input → List Finding) (names : A → List Entry) (at : Input) where
  after_value : (o : Option (A × Input)) →
      given_by (some_or o (stop at) (λ x. reading (found x) (names x.0) x.1 false)) ≡ read_after g (λ x. give (names x)) o
  after_value None = refl
  after_value (Some x) = refl

  value_given : given_by (some_or (g.parse at) (stop at) (λ x. reading (found x) (names x.0) x.1 false)) ≡ (one names g).read at
  value_given = after_value (g.parse at)

-- ---- The contents of subsections

module _ (m : PlacedModule) (s : ℕ) where
  map_given : (outer count : ℕ) → Agree (name_map m s outer count) (section.name_map s outer)
  map_given outer count =
      list_given (item_name m s outer count) (entry s outer)
      (λ at. value_given association (λ x. in_name m s outer count at.place x.0 x.1.place) (λ x. entry_of s outer x ∷ []) at)

  owned_given : Agree (owned_names m s) (section.inner_map s)
  owned_given = number_given NameOwner (λ outer. name_map m s outer (inner_count m s outer)) (λ outer. section.name_map s outer)
      (λ outer. map_given outer (inner_count m s outer))

  -- A function or type without names gives none.
  none_given : (at after : Input) → after_no_names at ≡ Some after → (section.inner_map s).read at ≡ ([], Some after)
  none_given at after e =
      let ((outer, mid), first, rest) = bind_some (u32.parse at) (λ x. u32.parse x.1 >>= λ y. cond (eqb y.0 0) (Some y.1) None) after e in
      let ((n, end), second, same) = bind_some (u32.parse mid) (λ y. cond (eqb y.0 0) (Some y.1) None) after rest in
      let (zeros, is) = tested (eqb n 0) (Some end) after same in
      ap (λ (o : Option (ℕ × Input)). read_after u32 (λ outer. section.name_map s outer) o) first
      ∙ ap (λ (o : Option (ℕ × Input)). read_after u32 (λ n. lenient.repeat (entry s outer) n) o) second
      ∙ ap (λ (k : ℕ). lenient.repeat_at (entry s outer) k end) (eqb-true n 0 zeros)
      ∙ ap no_entries is

  inner_by : (at : Input) (o : Option Input) → after_no_names at ≡ o →
      given_by (some_or o (owned_names m s at) (λ after. passed (finding at.place OwnerWithoutNames (after.place - at.place) ∷ []) after))
      ≡ (section.inner_map s).read at
  inner_by at None e = owned_given at
  inner_by at (Some after) e = sym (none_given at after e)

  inner_given : Agree (inner_map m s) (section.inner_map s)
  inner_given at = inner_by at (after_no_names at) refl

  content_by : (at : Input) (is_module indirect : Bool) →
      given_by (cond is_module (module_name m at) (cond indirect (read_list (inner_map m s) at) (name_map m s 0 (item_count m s) at)))
      ≡ (by_test is_module section.module_name (by_test indirect (indirect_map s) (section.name_map s 0))).read at
  content_by at true indirect =
      value_given name (λ x. in_given (is_replaced m module_subsection 0 0 x.0) at.place (bytes_len x.0) x.1.place)
      (λ x. entry_of module_subsection 0 (0, x) ∷ []) at
  content_by at false true = list_given (inner_map m s) (section.inner_map s) inner_given at
  content_by at false false = map_given 0 (item_count m s) at

  content_given : Agree (content m s) (entries_by_id s)
  content_given at = content_by at (eqb s module_subsection) (is_indirect s)

-- ---- Subsections

-- A list with the count 0 gives no entries.
empty_by : (l : ℕ → Lenient Entry) → ((at : Input) → (l 0).read at ≡ ([], Some at)) → (o : Option (ℕ × Input)) →
    some_or o false (λ x. eqb x.0 0) ≡ true → (left : Input) × (read_after u32 l o ≡ ([], Some left))
empty_by l none None e = absurd cc
empty_by l none (Some x) e = (x.1, ap (λ (n : ℕ). (l n).read x.1) (eqb-true x.0 0 e) ∙ none x.1)

module _ (s : ℕ) (c : Placed (List ℕ)) where
  abbrev at_content : Input
  at_content = input c.place c.value

  list_by : (indirect : Bool) → is_empty_list c ≡ true →
      (left : Input) × ((by_test indirect (indirect_map s) (section.name_map s 0)).read at_content ≡ ([], Some left))
  list_by true e = empty_by (λ n. lenient.repeat (section.inner_map s) n) (λ at. refl) (u32.parse at_content) e
  list_by false e = empty_by (λ n. lenient.repeat (entry s 0) n) (λ at. refl) (u32.parse at_content) e

  -- A subsection that gives no names has no entries, and no error.
  nothing_by : (unknown is_module : Bool) → (unknown || (not is_module && is_empty_list c)) ≡ true →
      (left : Input)
      × ((by_test unknown (give []) (by_test is_module section.module_name (by_test (is_indirect s) (indirect_map s) (section.name_map s 0)))).read at_content
      ≡ ([], Some left))
  nothing_by true is_module e = (at_content, refl)
  nothing_by false true e = absurd cc
  nothing_by false false e = list_by (is_indirect s) e

  nothing_given : gives_no_names s c ≡ true → (left : Input) × ((section.content s).read at_content ≡ ([], Some left))
  nothing_given e = nothing_by (ltb tag_subsection s) (eqb s module_subsection) e

  known_by : (unknown : Bool) → (unknown || (not (eqb s module_subsection) && is_empty_list c)) ≡ false →
      (entries_by_id s).read at_content ≡ (by_test unknown (give []) (entries_by_id s)).read at_content
  known_by true e = absurd cc
  known_by false e = refl

-- What is read of a content, before the input `after`.
abbrev ended : Input → Given → Given
ended after g = (g.0, after_part g.1 after)

end_given : (after : Input) (found : List Finding) (names : List Entry) (left : Input) (stopped : Bool) →
    given_by (at_end_of after (reading found names left stopped)) ≡ ended after (given_by (reading found names left stopped))
end_given after found names left true = refl
end_given after found names left false = refl

module _ (m : PlacedModule) (at : Input) (s : ℕ) (c : Placed (List ℕ)) (after : Input) where
  known_given : gives_no_names s c ≡ false →
      given_by (known_subsection m (at.place + 1) s c after) ≡ ended after ((section.content s).read (input c.place c.value))
  known_given e =
      let r : Reading = content m s (input c.place c.value) in
      end_given after r.found r.names r.left r.stopped
      ∙ ap (ended after) (content_given m s (input c.place c.value) ∙ known_by s c (ltb tag_subsection s) e)

  abbrev whole : Reading
  whole = passed (finding at.place (NameSubsection s) (after.place - at.place) ∷ []) after

  whole_by : (none : Bool) → gives_no_names s c ≡ none →
      given_by (cond none whole (known_subsection m (at.place + 1) s c after)) ≡ ended after ((section.content s).read (input c.place c.value))
  whole_by true e = let (left, is) = nothing_given s c e in sym (ap (ended after) is)
  whole_by false e = known_given e

  whole_given : given_by (cond (gives_no_names s c) whole (known_subsection m (at.place + 1) s c after)) ≡ ended after ((section.content s).read (input c.place c.value))
  whole_given = whole_by (gives_no_names s c) refl

-- The content and the input after it, with the number before it.
abbrev after_first : ℕ → Option (Placed (List ℕ) × Input) → Option ((ℕ × Placed (List ℕ)) × Input)
after_first n o = o >>= λ b. Some ((n, b.0), b.1)

abbrev without_first : Option ((ℕ × Placed (List ℕ)) × Input) → Option (Placed (List ℕ) × Input)
without_first o = o >>= λ a. Some a.0.1 >>= λ b. Some (b, a.1)

abbrev with_place : Input → Option (List ℕ × Input) → Option (Placed (List ℕ) × Input)
with_place start o = o >>= λ a. Some (record { place = start.place; value = a.0 }, a.1)

module _ (m : PlacedModule) (at : Input) where
  -- What is given once the id, the content and the input after it are known.
  abbrev in_parts : Option ((ℕ × Placed (List ℕ)) × Input) → Given
  in_parts o =
      given_by (some_or o (stop at)
      (λ ((s, c), after). cond (gives_no_names s c) (whole m at s c after) (known_subsection m (at.place + 1) s c after)))

  bytes_by : (s size : ℕ) (start : Input) (o : Option (List ℕ × Input)) →
      in_parts (after_first s (without_first (after_first size (with_place start o)))) ≡ read_inside (section.content s) size start o
  bytes_by s size start None = refl
  bytes_by s size start (Some (bytes, after)) = whole_given m at s (record { place = start.place; value = bytes }) after

  size_by : (s : ℕ) (o : Option (ℕ × Input)) →
      in_parts (after_first s (without_first (o >>= λ a. after_first a.0 ((value_with_place (take_bytes a.0)).parse a.1))))
      ≡ read_after u32 (λ size. within (section.content s) size) o
  size_by s None = refl
  size_by s (Some (size, start)) = bytes_by s size start ((take_bytes size).parse start)

  id_by : (o : Option (ℕ × Input)) →
      in_parts (o >>= λ a. after_first a.0 ((map_value (λ x. x.1) (seq u32 (λ size. value_with_place (take_bytes size)))).parse a.1))
      ≡ read_after byte (λ s. follow u32 (λ size. within (section.content s) size)) o
  id_by None = refl
  id_by (Some (s, mid)) = size_by s (u32.parse mid)

  subsection_given : given_by (subsection m at) ≡ section.subsection.read at
  subsection_given = id_by (byte.parse at)

  next_by : (none : Bool) → given_by (cond none (passed [] at) (subsection m at)) ≡ cond none ([], Some at) (section.subsection.read at)
  next_by true = refl
  next_by false = subsection_given

  next_given : given_by (next_subsection m at) ≡ (unless_ended section.subsection).read at
  next_given = next_by (eqb (length at.bytes) 0)

-- ---- All data

pub names_are_given : NamesAreThoseGiven
names_are_given m d =
    ap (λ (g : Given). g.0) (repeat_given (next_subsection m) (unless_ended section.subsection) (next_given m) (length d.value) (input d.place d.value))
