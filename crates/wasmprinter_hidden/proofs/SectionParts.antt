-- The findings in a section with entries.
use Rattle.std.proofs.Common.{◌≡◌, ℕ, ◌<◌, ◌^◌, length, List, [], ◌∷◌, ◌++◌, refl, sym, ap, ◌∙◌, append_assoc}
use Rattle.std.specs.Prelude.{Result, OnOk}
use Rattle.std.specs.declared.alloc.AllocError.{AllocError}
use Rattle.std.proofs.lemmas.List.{length-map}
use Rattle.std.proofs.lemmas.Result.{on_ok_weaker}
use Rattle.wasmprinter_spec.specs.Grammar.{Placed}
use Rattle.wasmprinter_spec.specs.Placed.{PlacedModule}
use Rattle.wasmprinter_spec.specs.Sections.{kind_of}
use Rattle.wasmprinter_hidden.specs.Lengths.{unsigned_len}
use Rattle.wasmprinter_hidden.specs.Findings.{if_longer}
use Rattle.wasmprinter_hidden.specs.Hidden.{Extent, in_items, in_size, in_list, in_entries, in_section}
use Rattle.wasmprinter_hidden.specs.OpenParts.{lengths, in_open, HasRead}
use Rattle.wasmprinter_hidden.specs.declared.finding.Part.TheVariants.{Count, Entry}
use Rattle.wasmprinter_hidden.specs.declared.finding.Finding.{Finding}
use Rattle.wasmprinter_hidden.specs.declared.findings.OpenPart.{OpenPart}
use Rattle.wasmprinter_hidden.proofs.OpenParts.{in_items-lengths}

-- A list that is not empty has the findings of its size, its count and its entries.
filled : (xs : List (Placed ℕ)) (x : Extent) → (xs ≡ [] → ⊥) →
    in_entries (λ n. n) xs x ≡ in_size x ++ in_list (Count x.id) (Entry x.id) (λ n. n) xs x.contents x.end
filled [] x some = absurd (some refl)
filled (y ∷ ys) x some = refl

pub entries_read : (xs : List (Placed ℕ)) (x : Extent) (old sized with_entries found : List Finding) (last : OpenPart) → (xs ≡ [] → ⊥) →
    sized ≡ old ++ in_size x →
    HasRead (Entry x.id) sized (record { part = Count x.id; place = x.contents; len = unsigned_len (length xs) }) xs with_entries last →
    x.end < 2 ^ 64 → found ≡ with_entries ++ in_open last x.end → found ≡ old ++ in_entries (λ n. n) xs x
entries_read xs x old sized with_entries found last some is_sized read lt is_found =
    is_found ∙ (read x.end lt).1
    ∙ ap (λ (f : List Finding). f ++ in_list (Count x.id) (Entry x.id) (λ n. n) xs x.contents x.end) is_sized
    ∙ append_assoc old (in_size x) (in_list (Count x.id) (Entry x.id) (λ n. n) xs x.contents x.end)
    ∙ ap (λ (f : List Finding). old ++ f) (rw (filled xs x some) refl)

-- Entries with their places, in a section of this kind of the module.
module _ {A : Type 0} (len : A → ℕ) where
  entries_are : (es : List (Placed A)) (x : Extent) → in_entries (λ n. n) (lengths (λ e. e.place) (λ e. len e.value) es) x ≡ in_entries len es x
  entries_are [] x = refl
  entries_are (e ∷ es) x =
      let xs : List (Placed ℕ) = lengths (λ a. a.place) (λ a. len a.value) (e ∷ es) in
      ap (λ (n : ℕ). in_size x ++ (if_longer (Count x.id) x.contents e.place (unsigned_len n) ++ in_items (Entry x.id) (λ n. n) xs x.end))
      (length-map (e ∷ es) (λ a. record { place = a.place; value = len a.value }))
      ∙ ap (λ (f : List Finding). in_size x ++ (if_longer (Count x.id) x.contents e.place (unsigned_len (length (e ∷ es))) ++ f))
      (in_items-lengths len (Entry x.id) (e ∷ es) x.end)

  pub entries_found : (id : ℕ) (m : PlacedModule) (es ds : List (Placed A)) (x : Extent) (r : Result (Unit {0}) AllocError) (old found : List Finding) →
      x.id ≡ id → ds ≡ es → in_entries len es x ≡ in_section m (kind_of id) x →
      OnOk r (found ≡ old ++ in_entries (λ n. n) (lengths (λ e. e.place) (λ e. len e.value) ds) x) →
      OnOk r (found ≡ old ++ in_section m (kind_of x.id) x)
  entries_found id m es ds x r old found is same of_kind h =
      on_ok_weaker r
      (λ e. e ∙ ap (λ (f : List Finding). old ++ f)
      (entries_are ds x ∙ ap (λ (fs : List (Placed A)). in_entries len fs x) same ∙ of_kind ∙ ap (λ (i : ℕ). in_section m (kind_of i) x) (sym is)))
      h
