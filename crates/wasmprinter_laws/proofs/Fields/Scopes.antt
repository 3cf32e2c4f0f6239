-- The scope of the layout, the context of the reader and the counts of fields have the same types and the same
-- identifiers.
use Rattle.std.proofs.Common.{◌≡◌, ℕ, ◌<◌, ◌^◌, List, Some, refl, subst, ◌∙◌, min}
use Rattle.std.specs.List.{AllByRecursion}
use Rattle.wasmprinter_spec.specs.Forest.{Forest}
use Rattle.wasmprinter_spec.specs.Types.{HeapType, ValType, FuncType, signature_at, ExternKind, FuncKind, TableKind, MemoryKind, GlobalKind, TagKind}
use Rattle.wasmprinter_spec.specs.Row.{Space, Types}
use Rattle.wasmprinter_spec.specs.Names.{Names, AreApart, AreNamed, in_function, identifiers}
use Rattle.wasmprinter_spec.specs.Indexed.{Counts, IsIndex, IsDeclaredHeap, IsDeclaredVal, IsDeclaredFunc, parameter_count, space_of}
use Rattle.wasmprinter_spec.specs.IndexSpaces.{space_in, index, Context}
use Rattle.wasmprinter_spec.specs.Layout.Declarations.{Scope}
use Rattle.wasmprinter_spec.specs.Layout.Expressions.{in_line}
use Rattle.wasmprinter_laws.specs.Listed.{IsSignatureInRange}
use Rattle.wasmprinter_laws.specs.OperatorLaws.{count_in, HaveSameTypes, HaveSameNames}
use Rattle.wasmprinter_laws.proofs.Identifiers.{index_items, id_items, Declares, Reads, index_reads, of_least, reads_least}
use Rattle.wasmprinter_laws.proofs.Types.Ranged.{IsRangedHeap, IsRangedVal}

-- The identifier in the declaration of an item
abbrev pub own_id : Scope → Space → ℕ → Forest
own_id s space i = id_items (s.names.items space i)

-- The items of an index
abbrev pub own_index : Scope → Space → ℕ → Forest
own_index s space i = index_items (s.names.items space i) i

-- Types and identifiers are the same, identifiers are apart and UTF-8, and each function type has fewer than 2 ^ 32
-- parameters.
pub record AreScoped (s : Scope) (c : Context) (n : Counts) : Type 0 where
  pub types : HaveSameTypes (in_line s 2) c n
  pub names : HaveSameNames (in_line s 2) c n
  pub apart : AreApart s.names
  pub named : AreNamed s.names
  pub few : (i : ℕ) → parameter_count (signature_at s.types i) < 2 ^ 32

-- An index space of the module, not of a function
abbrev pub IsOfModule : Space → Type 0
IsOfModule space = (names : Names) (f : ℕ) → in_function names f space ≡ names.items space

pub space_of-module : (kind : ExternKind) → IsOfModule (space_of kind)
space_of-module FuncKind names f = refl
space_of-module TableKind names f = refl
space_of-module MemoryKind names f = refl
space_of-module GlobalKind names f = refl
space_of-module TagKind names f = refl

pub space_of-counted : (kind : ExternKind) (n : Counts) (i : ℕ) → IsIndex n (space_of kind) i → i < count_in n (space_of kind)
space_of-counted FuncKind n i h = h
space_of-counted TableKind n i h = h
space_of-counted MemoryKind n i h = h
space_of-counted GlobalKind n i h = h
space_of-counted TagKind n i h = h

module _ (s : Scope) (c : Context) (n : Counts) (scoped : AreScoped s c n) where
  pub scope_declares : (space : Space) → IsOfModule space → Declares (space_in c.spaces space) (s.names.items space) (count_in n space)
  scope_declares space own = record {
    are = subst (λ named. space_in c.spaces space ≡ identifiers named (count_in n space)) (own s.names s.function) (scoped.names.spaces space);
    few = scoped.names.few space;
    apart = scoped.apart.items space;
  }

  -- An index of a counted item reads as itself.
  pub own_index-reads : (space : Space) → IsOfModule space → (i : ℕ) → i < count_in n space → i < 2 ^ 32 →
      index (space_in c.spaces space) (own_index s space i) ≡ Some i
  own_index-reads space own i declared small = index_reads (space_in c.spaces space) (s.names.items space) (count_in n space) (scope_declares space own) i declared small

  -- Type indices below this bound read as themselves.
  abbrev pub type_bound : ℕ
  type_bound = min (2 ^ 32) n.types

  pub type_indices-read : Reads c.spaces.types (s.names.items Types) type_bound
  type_indices-read = reads_least c.spaces.types (s.names.items Types) n.types (scope_declares Types (λ names f. refl))

  -- Indices that are in range and declared are below the bound.
  pub heap_bounded : (h : HeapType) → IsRangedHeap h → IsDeclaredHeap n.types h → IsDeclaredHeap type_bound h
  heap_bounded h r d = of_least (λ k. IsDeclaredHeap k h) (2 ^ 32) n.types r d

  pub val_bounded : (t : ValType) → IsRangedVal t → IsDeclaredVal n.types t → IsDeclaredVal type_bound t
  val_bounded t r d = of_least (λ k. IsDeclaredVal k t) (2 ^ 32) n.types r d

  pub vals_bounded : (ts : List ValType) → AllByRecursion IsRangedVal ts → AllByRecursion (IsDeclaredVal n.types) ts → AllByRecursion (IsDeclaredVal type_bound) ts
  vals_bounded ts r d = of_least (λ k. AllByRecursion (IsDeclaredVal k) ts) (2 ^ 32) n.types r d

  -- The type indices in the signature of a function type, which is printed beside its index, are below the bound.
  pub signature_bounded : (t : FuncType) (i : ℕ) → signature_at s.types i ≡ Some t → IsDeclaredFunc type_bound t
  signature_bounded t i own =
      of_least (λ k. IsDeclaredFunc k t) (2 ^ 32) n.types
      (subst IsSignatureInRange own (scoped.types.in_range i)) (scoped.names.signatures i t (scoped.types.counted i ∙ own))

  pub signature_declared : (t : FuncType) (i : ℕ) → signature_at s.types i ≡ Some t → i < n.types
  signature_declared t i own = scoped.names.functions i t (scoped.types.counted i ∙ own)
