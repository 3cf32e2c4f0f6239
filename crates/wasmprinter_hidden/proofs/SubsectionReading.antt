-- Reading the subsections of a name section.
use Rattle.std.proofs.Common.{◌≡◌, ℕ, zero, suc, ◌+◌, ◌<◌, ◌≤◌, Bool, true, false, cond, eqb, length, List, [], ◌++◌, refl, sym, ap, subst, ◌∙◌, arith, append_assoc, append-nil}
use Rattle.std.proofs.lemmas.Bool.{eq-eqb, ne_eqb}
use Rattle.std.proofs.lemmas.List.{nil_from_length}
use Rattle.wasmprinter_spec.specs.Grammar.{Input, input}
use Rattle.wasmprinter_spec.specs.Placed.{PlacedModule}
use Rattle.wasmprinter_spec.specs.Names.Section.{module_subsection, is_indirect}
use Rattle.wasmprinter_custom.specs.Spaces.{id_of, outer_of}
use Rattle.wasmprinter_custom.specs.declared.index_space.Space.{Space}
use Rattle.wasmprinter_custom.specs.declared.index_space.Space.TheVariants.{Func}
use Rattle.wasmprinter_hidden.specs.HiddenNames.{Reading, reading, stop, passed, and_then, repeat, read_list, name_map, item_count, inner_map, module_name, content, subsection, next_subsection, after_stop, in_names}
use Rattle.wasmprinter_hidden.specs.NameReadings.{IsRead}
use Rattle.wasmprinter_hidden.specs.declared.finding.Finding.{Finding}
use Rattle.wasmprinter_hidden.proofs.NameReading.{Completes, times_more, times_stopped, times_done}

-- ---- The content of a subsection

-- The subsection with the module's name names no space.
names_items : (space : Space) → eqb (id_of space) module_subsection ≡ false
names_items Func = refl
names_items _ = refl

outer_is_zero : (indirect : Bool) → ◌≡◌ {A = ℕ} (cond indirect 0 0) 0
outer_is_zero true = refl
outer_is_zero false = refl

module _ (m : PlacedModule) (space : Space) (at : Input) where
  content_is : (is_module indirect : Bool) → eqb (id_of space) module_subsection ≡ is_module → is_indirect (id_of space) ≡ indirect →
      content m (id_of space) at
      ≡ cond is_module (module_name m at) (cond indirect (read_list (inner_map m (id_of space)) at) (name_map m (id_of space) 0 (item_count m (id_of space)) at))
  content_is is_module indirect e f =
      ap (λ (b : Bool). cond b (module_name m at) (cond (is_indirect (id_of space)) (read_list (inner_map m (id_of space)) at) (name_map m (id_of space) 0 (item_count m (id_of space)) at))) e
      ∙ ap (λ (b : Bool). cond is_module (module_name m at) (cond b (read_list (inner_map m (id_of space)) at) (name_map m (id_of space) 0 (item_count m (id_of space)) at))) f

  pub content_of_items : (count : ℕ) (old now : List Finding) (after : Input) (stopped : Bool) → is_indirect (id_of space) ≡ false →
      count ≡ item_count m (id_of space) → IsRead (name_map m (id_of space) (outer_of space 0) count at) old after now stopped →
      IsRead (content m (id_of space) at) old after now stopped
  content_of_items count old now after stopped direct counted r =
      subst (λ (x : Reading). IsRead x old after now stopped) (sym (content_is false false (names_items space) direct))
      (subst (λ (outer : ℕ). IsRead (name_map m (id_of space) outer (item_count m (id_of space)) at) old after now stopped) (outer_is_zero (is_indirect (id_of space)))
      (subst (λ (n : ℕ). IsRead (name_map m (id_of space) (outer_of space 0) n at) old after now stopped) counted r))

-- ---- Subsections

module _ (m : PlacedModule) where
  -- If no byte is left, there are no more subsections.
  none_left : (k : ℕ) (at : Input) → at.bytes ≡ [] → repeat k (next_subsection m) at ≡ passed [] at
  none_left zero at none = refl
  none_left (suc k) at none =
      let here : next_subsection m at ≡ passed [] at =
      ap (λ (b : Bool). cond b (passed [] at) (subsection m at)) (eq-eqb (length at.bytes) 0 (ap length none)) in
      ap (λ (r : Reading). and_then r (repeat k (next_subsection m))) here ∙ none_left k at none

  some_left : (at : Input) → (at.bytes ≡ [] → ⊥) → next_subsection m at ≡ subsection m at
  some_left at some =
      ap (λ (b : Bool). cond b (passed [] at) (subsection m at)) (ne_eqb (length at.bytes) 0 (λ e. some (nil_from_length at.bytes e)))

  -- What is left is no more subsections than bytes.
  pub record SubsectionsLeft (at : Input) (now : List Finding) (whole : Reading) (old : List Finding) : Type 0 where
    pub most : ℕ
    pub enough : length at.bytes ≤ most
    pub completes : Completes (repeat most (next_subsection m) at) now whole old

  -- All subsections of these data.
  abbrev pub all_subsections : Input → Reading
  all_subsections start = repeat (length start.bytes) (next_subsection m) start

  module _ (start : Input) (old : List Finding) (at : Input) (now : List Finding) where
    next_left : (most : ℕ) → length at.bytes ≤ most → (at.bytes ≡ [] → ⊥) → Completes (repeat most (next_subsection m) at) now (all_subsections start) old →
        (k : ℕ) × (most ≡ suc k)
    next_left zero enough some c = absurd (some (nil_from_length at.bytes (omega arith)))
    next_left (suc k) enough some c = (k, refl)

    pub subsections_more : (after : Input) (found : List Finding) → (at.bytes ≡ [] → ⊥) → SubsectionsLeft at now (all_subsections start) old →
        IsRead (subsection m at) now after found false → length after.bytes < length at.bytes → SubsectionsLeft after found (all_subsections start) old
    subsections_more after found some s r less =
        let (k, is) = next_left s.most s.enough some s.completes in
        let here = subst (λ (x : Reading). IsRead x now after found false) (sym (some_left at some)) r in
        let c = subst (λ (n : ℕ). Completes (repeat n (next_subsection m) at) now (all_subsections start) old) is s.completes in
        record { most = k; enough = omega arith; completes = times_more (next_subsection m) (all_subsections start) old k at after now found c here }

    pub subsections_stop : (after : Input) (found : List Finding) → (at.bytes ≡ [] → ⊥) → SubsectionsLeft at now (all_subsections start) old →
        IsRead (subsection m at) now after found true → IsRead (all_subsections start) old after found true
    subsections_stop after found some s r =
        let (k, is) = next_left s.most s.enough some s.completes in
        let here = subst (λ (x : Reading). IsRead x now after found true) (sym (some_left at some)) r in
        let c = subst (λ (n : ℕ). Completes (repeat n (next_subsection m) at) now (all_subsections start) old) is s.completes in
        times_stopped (next_subsection m) (all_subsections start) old k at after now found c here

    pub subsections_end : at.bytes ≡ [] → SubsectionsLeft at now (all_subsections start) old → IsRead (all_subsections start) old at now false
    subsections_end none s =
        times_done (next_subsection m) (all_subsections start) old at now
        (subst (λ (x : Reading). Completes x now (all_subsections start) old) (none_left s.most at none) s.completes)

  -- ---- All data

  pub names_read : (start after : Input) (old now : List Finding) → IsRead (all_subsections start) old after now false →
      now ≡ old ++ in_names m (record { place = start.place; value = start.bytes })
  names_read start after old now r =
      let all : Reading = all_subsections start in
      let end : ℕ = start.place + length start.bytes in
      r.found ∙ ap (λ (f : List Finding). old ++ f) (sym (append-nil all.found))
      ∙ ap (λ (b : Bool). old ++ (all.found ++ after_stop (reading [] [] all.left b) end)) r.stops

  pub names_stopped : (start after : Input) (old now found : List Finding) (place end : ℕ) → place ≡ after.place →
      end ≡ start.place + length start.bytes → IsRead (all_subsections start) old after now true →
      found ≡ now ++ after_stop (stop (input place [])) end → found ≡ old ++ in_names m (record { place = start.place; value = start.bytes })
  names_stopped start after old now found place end is_place is_end r added =
      let all : Reading = all_subsections start in
      let last : ℕ = start.place + length start.bytes in
      let rest : ℕ → ℕ → List Finding = λ p e. after_stop (stop (input p [])) e in
      added ∙ ap (λ (e : ℕ). now ++ rest place e) is_end
      ∙ ap (λ (p : ℕ). now ++ rest p last) (is_place ∙ ap (λ (i : Input). i.place) r.left)
      ∙ ap (λ (f : List Finding). f ++ rest all.left.place last) r.found
      ∙ append_assoc old all.found (rest all.left.place last)
      ∙ ap (λ (b : Bool). old ++ (all.found ++ after_stop (reading [] [] all.left b) last)) r.stops
