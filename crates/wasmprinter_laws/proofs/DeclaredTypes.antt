-- The groups of types of a module read back, with the identifiers of types and of fields.
use Rattle.std.proofs.Common.{◌≡◌, ℕ, zero, suc, ◌+◌, ◌<◌, List, [], ◌∷◌, ◌++◌, length, Some, refl, sym, ap, ap₂, subst, ◌∙◌, slice_get, arith}
use Rattle.std.specs.List.{AllByRecursion}
use Rattle.std.proofs.lemmas.List.{length-append}
use Rattle.wasmprinter_spec.specs.Grammar.{Placed, some_is}
use Rattle.wasmprinter_spec.specs.Forest.{End, Group}
use Rattle.wasmprinter_spec.specs.Types.{FieldType, FuncType, CompositeType, FuncComposite, ArrayComposite, StructComposite, SubType, concat, all_types, func_type_of, fields_of, signature_at, fields_at}
use Rattle.wasmprinter_spec.specs.Row.{Types}
use Rattle.wasmprinter_spec.specs.Names.{Names, identifiers_at, identifiers, AreDistinct}
use Rattle.wasmprinter_spec.specs.Placed.{TypeGroup}
use Rattle.wasmprinter_spec.specs.Module.{groups_of}
use Rattle.wasmprinter_spec.specs.Indexed.{IsDeclaredFunc, IsDeclaredComposite, IsDeclaredSub}
use Rattle.wasmprinter_spec.specs.IndexSpaces.{Identifiers}
use Rattle.wasmprinter_spec.specs.Text.Items.{each, identifier_in_front}
use Rattle.wasmprinter_spec.specs.Text.Types.{Declared, read_group, group_types, declared_fields, field_space}
use Rattle.wasmprinter_spec.specs.Read.{identifiers_of}
use Rattle.wasmprinter_spec.proofs.Each.{all_both}
use Rattle.wasmprinter_laws.proofs.Declarations.{id, identifiers_at-more}
use Rattle.wasmprinter_laws.proofs.Identifiers.{Reads, declaration-items}
use Rattle.wasmprinter_laws.proofs.Numbered.{map_numbered}
use Rattle.wasmprinter_laws.proofs.Spaces.{declared_numbered, identifiers_of-append}
use Rattle.wasmprinter_laws.proofs.Types.Ranged.{IsRangedGroup}
use Rattle.wasmprinter_laws.proofs.Types.Trees.{sub_items, type_items}
use Rattle.wasmprinter_laws.proofs.Types.Back.{declared_type, read_group-items, types-declared}
use Rattle.wasmprinter_laws.proofs.Sorted.{group_bodies}

-- ---- identifiers of types

type_id : (names : Names) (i : ℕ) (t : SubType) → (identifier_in_front (type_items names i t)).0 ≡ id (names.items Types i)
type_id names i t = ap (λ x. x.0) (declaration-items (names.items Types i) (Group (sub_items names i t) End) refl)

pub declared_types : (names : Names) (i : ℕ) (gs : List (Placed TypeGroup)) →
    identifiers_of (concat (group_bodies names i gs)) ≡ identifiers_at (names.items Types) i (length (all_types (groups_of gs)))
declared_types names i [] = refl
declared_types names i (g ∷ gs) =
    let ts : List SubType = g.value.types in
    let us : List SubType = all_types (groups_of gs) in
    identifiers_of-append (map_numbered (type_items names) i ts) (concat (group_bodies names (i + length ts) gs))
    ∙ ap₂ (λ xs ys. xs ++ ys) (declared_numbered (type_items names) (names.items Types) (type_id names) i ts) (declared_types names (i + length ts) gs)
    ∙ identifiers_at-more (names.items Types) i (length ts) (length us)
    ∙ ap (identifiers_at (names.items Types) i) (sym (length-append ts us))

-- ---- types read back

-- The declarations that each group reads as
abbrev pub declared_groups : Names → ℕ → List (Placed TypeGroup) → List (List (Declared SubType))
declared_groups names i [] = []
declared_groups names i (g ∷ gs) = map_numbered (declared_type names) i g.value.types ∷ declared_groups names (i + length g.value.types) gs

pub read_groups-items : (names : Names) (ids : Identifiers) (bound : ℕ) → Reads ids (names.items Types) bound → ((i : ℕ) → AreDistinct (names.fields i)) →
    (i : ℕ) (gs : List (Placed TypeGroup)) → AllByRecursion (λ g. AllByRecursion (IsDeclaredSub bound) g) (groups_of gs) →
    AllByRecursion (λ g. IsRangedGroup g.value) gs → each (read_group ids) (group_bodies names i gs) ≡ Some (declared_groups names i gs)
read_groups-items names ids bound reads apart i [] d h = refl
read_groups-items names ids bound reads apart i (g ∷ gs) d h =
    rw (
      read_group-items names ids bound reads apart i g.value.types d.0 h.0.few,
      read_groups-items names ids bound reads apart (i + length g.value.types) gs d.1 h.1,
    )

pub group_types-identifiers_of : (names : Names) (i : ℕ) (gs : List (Placed TypeGroup)) → group_types (declared_groups names i gs) ≡ groups_of gs
group_types-identifiers_of names i [] = refl
group_types-identifiers_of names i (g ∷ gs) =
    ap₂ (λ x xs. x ∷ xs) (types-declared names i g.value.types) (group_types-identifiers_of names (i + length g.value.types) gs)

-- ---- fields

numbered-append : {A B : Type 0} (f : ℕ → A → B) (i : ℕ) (xs ys : List A) → map_numbered f i (xs ++ ys) ≡ map_numbered f i xs ++ map_numbered f (i + length xs) ys
numbered-append f i [] ys = let same : i ≡ i + 0 = omega arith in ap (λ (k : ℕ). map_numbered f k ys) same
numbered-append f i (x ∷ xs) ys =
    let same : i + 1 + length xs ≡ i + suc (length xs) = omega arith in
    ap (λ zs. f i x ∷ zs) (numbered-append f (i + 1) xs ys ∙ ap (λ (k : ℕ). map_numbered f (i + 1) xs ++ map_numbered f k ys) same)

all_declared : (names : Names) (i : ℕ) (gs : List (Placed TypeGroup)) →
    concat (declared_groups names i gs) ≡ map_numbered (declared_type names) i (all_types (groups_of gs))
all_declared names i [] = refl
all_declared names i (g ∷ gs) =
    ap (λ ds. map_numbered (declared_type names) i g.value.types ++ ds) (all_declared names (i + length g.value.types) gs)
    ∙ sym (numbered-append (declared_type names) i g.value.types (all_types (groups_of gs)))

own_fields : (names : Names) (i : ℕ) (t : SubType) (fs : List FieldType) → fields_of t.composite ≡ Some fs →
    (declared_type names i t).fields ≡ identifiers (names.fields i) (length fs)
own_fields names i t fs e = by t.composite e
  where
    by : (c : CompositeType) → fields_of c ≡ Some fs → (declared_type names i (record t { composite = c })).fields ≡ identifiers (names.fields i) (length fs)
    by (FuncComposite u) e = absurd cc
    by (ArrayComposite f) e = absurd cc
    by (StructComposite gs) e = ap (λ xs. identifiers (names.fields i) (length xs)) (some_is gs fs e)

fields_from : (names : Names) (i : ℕ) (ts : List SubType) (k : ℕ) (fs : List FieldType) → fields_at ts k ≡ Some fs →
    declared_fields (slice_get (map_numbered (declared_type names) i ts) k) ≡ identifiers (names.fields (i + k)) (length fs)
fields_from names i [] k fs e = absurd cc
fields_from names i (t ∷ ts) zero fs e =
    let same : i ≡ i + 0 = omega arith in
    own_fields names i t fs e ∙ ap (λ (k : ℕ). identifiers (names.fields k) (length fs)) same
fields_from names i (t ∷ ts) (suc k) fs e =
    let same : i + 1 + k ≡ i + suc k = omega arith in
    fields_from names (i + 1) ts k fs e ∙ ap (λ (k : ℕ). identifiers (names.fields k) (length fs)) same

-- The fields of a structure type have the identifiers that the names give.
pub field_space-identifiers_of : (names : Names) (gs : List (Placed TypeGroup)) (k : ℕ) (fs : List FieldType) → fields_at (all_types (groups_of gs)) k ≡ Some fs →
    field_space (declared_groups names 0 gs) k ≡ identifiers (names.fields k) (length fs)
field_space-identifiers_of names gs k fs e =
    let same : 0 + k ≡ k = omega arith in
    ap (λ ds. declared_fields (slice_get ds k)) (all_declared names 0 gs)
    ∙ fields_from names 0 (all_types (groups_of gs)) k fs e
    ∙ ap (λ (j : ℕ). identifiers (names.fields j) (length fs)) same

-- ---- a type index with a signature or fields is one of the module's types

signature_counted : (ts : List SubType) (k : ℕ) (f : FuncType) → signature_at ts k ≡ Some f → k < length ts
signature_counted [] k f e = absurd cc
signature_counted (t ∷ ts) zero f e = omega arith
signature_counted (t ∷ ts) (suc k) f e = let less = signature_counted ts k f e in omega arith

pub own_signature_counted : (gs : List (Placed TypeGroup)) (k : ℕ) (f : FuncType) → signature_at (all_types (groups_of gs)) k ≡ Some f → k < length (all_types (groups_of gs))
own_signature_counted gs k f e = signature_counted (all_types (groups_of gs)) k f e

fields_counted : (ts : List SubType) (k : ℕ) (fs : List FieldType) → fields_at ts k ≡ Some fs → k < length ts
fields_counted [] k fs e = absurd cc
fields_counted (t ∷ ts) zero fs e = omega arith
fields_counted (t ∷ ts) (suc k) fs e = let less = fields_counted ts k fs e in omega arith

pub own_fields_counted : (gs : List (Placed TypeGroup)) (k : ℕ) (fs : List FieldType) → fields_at (all_types (groups_of gs)) k ≡ Some fs → k < length (all_types (groups_of gs))
own_fields_counted gs k fs e = fields_counted (all_types (groups_of gs)) k fs e

-- ---- if all types are declared, then so is each signature

module _ (bound : ℕ) where
  all_types_declared : (gs : List (Placed TypeGroup)) → AllByRecursion (λ g. AllByRecursion (IsDeclaredSub bound) g) (groups_of gs) →
      AllByRecursion (IsDeclaredSub bound) (all_types (groups_of gs))
  all_types_declared [] h = tt
  all_types_declared (g ∷ gs) h = all_both (IsDeclaredSub bound) g.value.types (all_types (groups_of gs)) h.0 (all_types_declared gs h.1)

  composite_declared : (c : CompositeType) (f : FuncType) → IsDeclaredComposite bound c → func_type_of c ≡ Some f → IsDeclaredFunc bound f
  composite_declared (FuncComposite t) f h e = subst (IsDeclaredFunc bound) (some_is t f e) h
  composite_declared (ArrayComposite t) f h e = absurd cc
  composite_declared (StructComposite ts) f h e = absurd cc

  signature_of_declared : (ts : List SubType) (k : ℕ) (f : FuncType) → AllByRecursion (IsDeclaredSub bound) ts → signature_at ts k ≡ Some f → IsDeclaredFunc bound f
  signature_of_declared [] k f h e = absurd cc
  signature_of_declared (t ∷ ts) zero f h e = composite_declared t.composite f h.0.composite e
  signature_of_declared (t ∷ ts) (suc k) f h e = signature_of_declared ts k f h.1 e

  pub own_signature_declared : (gs : List (Placed TypeGroup)) (k : ℕ) (f : FuncType) → AllByRecursion (λ g. AllByRecursion (IsDeclaredSub bound) g) (groups_of gs) →
      signature_at (all_types (groups_of gs)) k ≡ Some f → IsDeclaredFunc bound f
  own_signature_declared gs k f h e = signature_of_declared (all_types (groups_of gs)) k f (all_types_declared gs h) e
