-- The identifiers of declarations, in order, are an index space: those of imports, and then those of the fields of
-- one kind.
use Rattle.std.proofs.Common.{◌≡◌, ◌⊎◌, inl, inr, ℕ, suc, ◌+◌, ◌≤◌, ◌^◌, true, false, List, [], ◌∷◌, ◌++◌, length, Option, Some, option_map, refl, sym, ap, ap₂, ◌∙◌}
use Rattle.wasmprinter_spec.specs.Forest.{Forest}
use Rattle.wasmprinter_spec.specs.Grammar.{Placed}
use Rattle.wasmprinter_spec.specs.Types.{ExternKind, FuncKind, TableKind, MemoryKind, GlobalKind, TagKind, ExternType, FuncExtern, TableExtern, MemoryExtern, GlobalExtern, TagExtern}
use Rattle.wasmprinter_spec.specs.Placed.{Import}
use Rattle.wasmprinter_spec.specs.Module.{without_places, with_first_if_any, imported_types, func_import, table_import, memory_import, global_import, tag_import}
use Rattle.wasmprinter_spec.specs.Labels.{Named}
use Rattle.wasmprinter_spec.specs.Names.{Names, identifiers_at, identifiers, AreDistinct}
use Rattle.wasmprinter_spec.specs.IndexSpaces.{index_space}
use Rattle.wasmprinter_spec.specs.Layout.Imports.{Numbers, number_of, numbers_after}
use Rattle.wasmprinter_spec.specs.Text.Items.{identifier_in_front}
use Rattle.wasmprinter_spec.specs.Text.Imports.{ImportField, field_of}
use Rattle.wasmprinter_spec.specs.Indexed.{space_of}
use Rattle.wasmprinter_spec.specs.Read.{identifiers_of, same_kind, imported_ids}
use Rattle.wasmprinter_laws.proofs.Declarations.{id}
use Rattle.wasmprinter_laws.proofs.Numbered.{map_numbered}
use Rattle.wasmprinter_laws.proofs.Names.Resolving.{identifiers_are_distinct}

-- Identifiers that are apart are an index space.
pub identifiers_space : (named : ℕ → Option Named) → AreDistinct named → (count : ℕ) → count ≤ 2 ^ 64 → index_space (identifiers named count) ≡ Some (identifiers named count)
identifiers_space named apart count few = rw (identifiers_are_distinct named apart count few)

-- ---- fields of one kind

pub declared_numbered : {A : Type 0} (items : ℕ → A → Forest) (named : ℕ → Option Named) → ((i : ℕ) (x : A) → (identifier_in_front (items i x)).0 ≡ id (named i)) →
    (i : ℕ) (xs : List A) → identifiers_of (map_numbered items i xs) ≡ identifiers_at named i (length xs)
declared_numbered items named its i [] = refl
declared_numbered items named its i (x ∷ xs) = ap₂ (λ y ys. y ∷ ys) (its i x) (declared_numbered items named its (i + 1) xs)

pub identifiers_of-append : (fs gs : List Forest) → identifiers_of (fs ++ gs) ≡ identifiers_of fs ++ identifiers_of gs
identifiers_of-append [] gs = refl
identifiers_of-append (f ∷ fs) gs = ap (λ ids. (identifier_in_front f).0 ∷ ids) (identifiers_of-append fs gs)

-- ---- imports take the first numbers of their kind

abbrev pub kind_of_extern : ExternType → ExternKind
kind_of_extern (FuncExtern i) = FuncKind
kind_of_extern (TableExtern t) = TableKind
kind_of_extern (MemoryExtern t) = MemoryKind
kind_of_extern (GlobalExtern t) = GlobalKind
kind_of_extern (TagExtern i) = TagKind

-- The number of the next import of a kind
abbrev pub number_in : ExternKind → Numbers → ℕ
number_in FuncKind n = n.functions
number_in TableKind n = n.tables
number_in MemoryKind n = n.memories
number_in GlobalKind n = n.globals
number_in TagKind n = n.tags

-- The number of imports of a kind
abbrev pub imports_of : ExternKind → List Import → ℕ
imports_of FuncKind is = length (imported_types func_import is)
imports_of TableKind is = length (imported_types table_import is)
imports_of MemoryKind is = length (imported_types memory_import is)
imports_of GlobalKind is = length (imported_types global_import is)
imports_of TagKind is = length (imported_types tag_import is)

-- The number of imports of a kind, with an import of this type before them
abbrev imports_with : ExternKind → ExternType → List Import → ℕ
imports_with FuncKind t is = length (with_first_if_any (func_import t) (imported_types func_import is))
imports_with TableKind t is = length (with_first_if_any (table_import t) (imported_types table_import is))
imports_with MemoryKind t is = length (with_first_if_any (memory_import t) (imported_types memory_import is))
imports_with GlobalKind t is = length (with_first_if_any (global_import t) (imported_types global_import is))
imports_with TagKind t is = length (with_first_if_any (tag_import t) (imported_types tag_import is))

imports_of-first : (kind : ExternKind) (i : Import) (is : List Import) → imports_of kind (i ∷ is) ≡ imports_with kind i.type is
imports_of-first FuncKind i is = refl
imports_of-first TableKind i is = refl
imports_of-first MemoryKind i is = refl
imports_of-first GlobalKind i is = refl
imports_of-first TagKind i is = refl

-- An import of the kind takes the next number of that kind.
record TakesNumber (kind : ExternKind) (t : ExternType) (n : Numbers) (is : List Import) : Type 0 where
  same : same_kind kind (kind_of_extern t) ≡ true
  its_kind : kind_of_extern t ≡ kind
  number : number_of t n ≡ number_in kind n
  next : number_in kind (numbers_after t n) ≡ number_in kind n + 1
  count : imports_with kind t is ≡ suc (imports_of kind is)

-- An import of another kind leaves the next number of this kind.
record LeavesNumber (kind : ExternKind) (t : ExternType) (n : Numbers) (is : List Import) : Type 0 where
  other : same_kind kind (kind_of_extern t) ≡ false
  next : number_in kind (numbers_after t n) ≡ number_in kind n
  count : imports_with kind t is ≡ imports_of kind is

takes_or_leaves : (kind : ExternKind) (t : ExternType) (n : Numbers) (is : List Import) → TakesNumber kind t n is ⊎ LeavesNumber kind t n is
takes_or_leaves FuncKind (FuncExtern i) n is = inl (record { same = refl; its_kind = refl; number = refl; next = refl; count = refl })
takes_or_leaves FuncKind _ n is = inr (record { other = refl; next = refl; count = refl })
takes_or_leaves TableKind (TableExtern i) n is = inl (record { same = refl; its_kind = refl; number = refl; next = refl; count = refl })
takes_or_leaves TableKind _ n is = inr (record { other = refl; next = refl; count = refl })
takes_or_leaves MemoryKind (MemoryExtern i) n is = inl (record { same = refl; its_kind = refl; number = refl; next = refl; count = refl })
takes_or_leaves MemoryKind _ n is = inr (record { other = refl; next = refl; count = refl })
takes_or_leaves GlobalKind (GlobalExtern i) n is = inl (record { same = refl; its_kind = refl; number = refl; next = refl; count = refl })
takes_or_leaves GlobalKind _ n is = inr (record { other = refl; next = refl; count = refl })
takes_or_leaves TagKind (TagExtern i) n is = inl (record { same = refl; its_kind = refl; number = refl; next = refl; count = refl })
takes_or_leaves TagKind _ n is = inr (record { other = refl; next = refl; count = refl })

module _ (names : Names) (items : ℕ → ExternType → Forest)
    (its : (n : ℕ) (t : ExternType) → (identifier_in_front (items n t)).0 ≡ id (names.items (space_of (kind_of_extern t)) n)) where
  -- The import fields, as they are sorted
  abbrev pub held_imports : Numbers → List (Placed Import) → List ImportField
  held_imports n [] = []
  held_imports n (i ∷ is) =
      field_of i.value.source i.value.name (items (number_of i.value.type n) i.value.type) (kind_of_extern i.value.type)
      ∷ held_imports (numbers_after i.value.type n) is

  pub imported_ids-held : (kind : ExternKind) (n : Numbers) (is : List (Placed Import)) →
      imported_ids kind (held_imports n is) ≡ identifiers_at (names.items (space_of kind)) (number_in kind n) (imports_of kind (without_places is))
  imported_ids-held FuncKind n [] = refl
  imported_ids-held TableKind n [] = refl
  imported_ids-held MemoryKind n [] = refl
  imported_ids-held GlobalKind n [] = refl
  imported_ids-held TagKind n [] = refl
  imported_ids-held kind n (i ∷ is) =
      by (takes_or_leaves kind i.value.type n (without_places is)) (imported_ids-held kind (numbers_after i.value.type n) is)
      ∙ ap (identifiers_at named (number_in kind n)) (sym (imports_of-first kind i.value (without_places is)))
    where
      named : ℕ → Option Named
      named = names.items (space_of kind)

      after : Numbers
      after = numbers_after i.value.type n

      by : TakesNumber kind i.value.type n (without_places is) ⊎ LeavesNumber kind i.value.type n (without_places is) →
          imported_ids kind (held_imports after is) ≡ identifiers_at named (number_in kind after) (imports_of kind (without_places is)) →
          imported_ids kind (held_imports n (i ∷ is)) ≡ identifiers_at named (number_in kind n) (imports_with kind i.value.type (without_places is))
      by (inl t) rest =
          let first : (identifier_in_front (items (number_of i.value.type n) i.value.type)).0 ≡ option_map (λ n. n.content) (named (number_in kind n)) =
          its (number_of i.value.type n) i.value.type
          ∙ ap₂ (λ k j. id (names.items (space_of k) j)) t.its_kind t.number in
          rw (t.same, t.count, first, rest, t.next)
      by (inr l) rest = rw (l.other, l.count, rest, l.next)
