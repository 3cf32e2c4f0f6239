-- The loop over the custom sections of a module that collects the names.
use Rattle.std.proofs.Common.{◌≡◌, ℕ, ◌+◌, ◌<◌, true, false, get_or, drop, List, [], ◌∷◌, ◌++◌, length, refl, sym, ap, subst, ◌∙◌, append_assoc, append-nil}
use Rattle.std.specs.Prelude.{bytes_eq}
use Rattle.std.proofs.lemmas.List.{at_drop_more}
use Rattle.wasmprinter_spec.specs.Grammar.{Input, input}
use Rattle.wasmprinter_spec.specs.Placed.{CustomEntry}
use Rattle.wasmprinter_spec.specs.Customs.{name_section}
use Rattle.wasmprinter_spec.specs.Names.Section.{Entry, GivesNames}
use Rattle.wasmprinter_spec.specs.ModuleNames.{entries_given, custom_entries, name_entries}
use Rattle.wasmprinter_spec.proofs.NameSections.{gives_some}
use Rattle.wasmprinter_custom.specs.declared.names.NamesBuilder.{NamesBuilder}
use Rattle.wasmprinter_custom.specs.HoldsEntries.{HoldsEntries}

-- The invariant of the loop: the builder holds the entries of the custom sections before number `i`.
pub record Naming (customs : List CustomEntry) (i : ℕ) (b : NamesBuilder) : Type 0 where
  pub entries : List Entry
  pub kept : HoldsEntries entries b
  pub all : entries ++ name_entries (drop i customs) ≡ name_entries customs

-- Before the loop the builder holds no entries.
pub naming_none : (customs : List CustomEntry) (b : NamesBuilder) → HoldsEntries [] b → Naming customs 0 b
naming_none customs b h = record { entries = []; kept = h; all = refl }

-- If two lists together are empty, then the first is empty.
front_nil : (xs ys : List Entry) → xs ++ ys ≡ [] → xs ≡ []
front_nil [] ys e = refl
front_nil (x ∷ xs) ys e = absurd cc

-- If two lists together are empty, then the second is empty.
after_nil : (xs ys : List Entry) → xs ++ ys ≡ [] → ys ≡ []
after_nil [] ys e = e
after_nil (x ∷ xs) ys e = absurd cc

-- The next custom section.
module _ (customs : List CustomEntry) (i : ℕ) (b : NamesBuilder) (c : CustomEntry) (lt : i < length customs) (same : c ≡ get_or customs i c) (k : Naming customs i b) where
  -- Its entries come before those of the following sections.
  split : name_entries (drop i customs) ≡ custom_entries c.section.value ++ name_entries (drop (i + 1) customs)
  split = at_drop_more name_entries customs i c lt ∙ ap (λ (x : CustomEntry). name_entries (x ∷ drop (i + 1) customs)) (sym same)

  -- If its entries were added to the builder, then the invariant holds after it.
  naming_more : (next : NamesBuilder) (gives : List Entry) → custom_entries c.section.value ≡ gives → HoldsEntries (k.entries ++ gives) next → Naming customs (i + 1) next
  naming_more next gives e h = record {
    entries = k.entries ++ gives;
    kept = h;
    all = append_assoc k.entries gives (name_entries (drop (i + 1) customs))
        ∙ ap (λ (xs : List Entry). k.entries ++ (xs ++ name_entries (drop (i + 1) customs))) (sym e)
        ∙ ap (λ (xs : List Entry). k.entries ++ xs) (sym split) ∙ k.all;
  }

  -- If it is not a name section, then the invariant holds after it without a change.
  pub naming_other : bytes_eq c.section.value.name name_section ≡ false → Naming customs (i + 1) b
  naming_other other =
      let none : custom_entries c.section.value ≡ [] = rw other refl in
      naming_more b [] none (subst (λ (xs : List Entry). HoldsEntries xs b) (sym (append-nil k.entries)) k.kept)

  -- It is a name section.
  module _ (section : Input) (is : bytes_eq c.section.value.name name_section ≡ true) (stands : section ≡ input c.section.value.bytes.place c.section.value.bytes.value) where
    its : custom_entries c.section.value ≡ entries_given c.section.value.bytes
    its = rw is refl

    given : GivesNames section (entries_given c.section.value.bytes)
    given = subst (λ (at : Input). GivesNames at (entries_given c.section.value.bytes)) (sym stands) (gives_some (input c.section.value.bytes.place c.section.value.bytes.value))

    -- If reading it added its entries to the builder, then the invariant holds after it.
    pub naming_read : (next : NamesBuilder) → ((entries gives : List Entry) → GivesNames section gives → HoldsEntries entries b → HoldsEntries (entries ++ gives) next) → Naming customs (i + 1) next
    naming_read next h = naming_more next (entries_given c.section.value.bytes) its (h k.entries (entries_given c.section.value.bytes) given k.kept)

    -- If the module has no entries, then this section gives none.
    pub naming_nothing : name_entries customs ≡ [] → GivesNames section []
    naming_nothing none =
        let rest : name_entries (drop i customs) ≡ [] = after_nil k.entries (name_entries (drop i customs)) (k.all ∙ none) in
        let nil : custom_entries c.section.value ≡ [] = front_nil (custom_entries c.section.value) (name_entries (drop (i + 1) customs)) (sym split ∙ rest) in
        subst (GivesNames section) (sym its ∙ nil) given

-- If no section is left, then the builder holds the entries of all custom sections.
pub naming_done : (customs : List CustomEntry) (i : ℕ) (b : NamesBuilder) → drop i customs ≡ [] → Naming customs i b → HoldsEntries (name_entries customs) b
naming_done customs i b past k =
    subst (λ (xs : List Entry). HoldsEntries xs b) (sym (append-nil k.entries) ∙ ap (λ (cs : List CustomEntry). k.entries ++ name_entries cs) (sym past) ∙ k.all) k.kept
