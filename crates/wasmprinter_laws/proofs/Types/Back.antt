-- The items of types read back, if those of indices do.
use Rattle.std.proofs.Common.{◌≡◌, ◌⊎◌, inl, inr, ℕ, ◌<◌, ◌+◌, true, false, Bool, List, [], ◌∷◌, ◌++◌, Option, Some, None, refl, ap, ◌∙◌, codes, bytes_eq, append-nil, map, option_map, length, arith}
use Rattle.std.specs.List.{AllByRecursion}
use Rattle.std.proofs.lemmas.Bool.{and_from, eq-eqb}
use Rattle.wasmprinter_spec.specs.Numeral.{natural, numeral}
use Rattle.wasmprinter_spec.specs.Forest.{Forest, End, Word, Group, onto}
use Rattle.wasmprinter_spec.specs.Row.{Types}
use Rattle.wasmprinter_spec.specs.Types.{HeapType, Index, ref_type, ValType, Ref, StorageType, Val, I8, I16, FieldType, field_type, FuncType, CompositeType, FuncComposite, ArrayComposite, StructComposite, SubType, sub_type}
use Rattle.wasmprinter_spec.specs.Labels.{Named}
use Rattle.wasmprinter_spec.specs.Names.{Names, AreDistinct, identifiers}
use Rattle.wasmprinter_spec.specs.Layout.Variables.{Variables, Alone, Together, with_variable, variable_groups}
use Rattle.wasmprinter_spec.specs.Layout.Types.{parameters_of}
use Rattle.wasmprinter_spec.specs.IndexSpaces.{Identifiers, index}
use Rattle.wasmprinter_spec.specs.Indexed.{IsDeclaredHeap, IsDeclaredVal, IsDeclaredStorage, IsDeclaredField, IsDeclaredFunc, IsDeclaredComposite, IsDeclaredSub}
use Rattle.wasmprinter_spec.specs.Text.Items.{identifier_in_front, groups, Declaration, declaration, declarations}
use Rattle.wasmprinter_spec.specs.Text.Types.{heap_of_word, ref_of_word, number_of_word, packed_of_word, val_named, storage_named, field_named, heap_type, ref_named, ref_parts, ref_group, val_group, val_types, storage_group, storage_type, field_group, field, fields, variables, Signature, Declared, with_fields, signature, composite, supertypes, subtype, read_type, read_group, group_members}
use Rattle.wasmprinter_spec.specs.Text.TypeUses.{heap_number, same_heap, same_flag, same_type, same_types, same_func_type, agrees, parameters}
use Rattle.wasmprinter_laws.proofs.Tokens.Grown.{onto-End, onto_assoc}
use Rattle.wasmprinter_laws.proofs.Items.{ReadsItem, one_item-reads, all_items-reads, unnamed, declarations-items, no_groups}
use Rattle.wasmprinter_laws.proofs.Declarations.{id, declared_from, types_of-declared, ids_of-declared}
use Rattle.wasmprinter_laws.proofs.Spaces.{identifiers_space}
use Rattle.wasmprinter_laws.proofs.Bytes.{same_bytes}
use Rattle.wasmprinter_laws.proofs.Identifiers.{index_items, id_items, Reads, declaration-items}
use Rattle.wasmprinter_laws.proofs.Types.Ranged.{IsFewComposite, IsFewSub}
use Rattle.wasmprinter_laws.proofs.Types.Trees.{heap_items, ref_items_by, val_items, types_items, group_items, groups_items, HaveTypes, grouped_types, signature_items, storage_items, field_items_by, field_items, struct_items, composite_items, supertype_items, sub_group_items, sub_items_by, sub_items, type_items, members_items}
use Rattle.wasmprinter_laws.proofs.Numbered.{rows, map_numbered}

-- ---- value types

-- The word of a value type that is not one of a packed type
pub record IsValWord (f : Forest) (t : ValType) : Type 0 where
  pub name : List ℕ
  pub is : f ≡ Word name End
  pub reads : val_named name ≡ Some t
  pub unpacked : packed_of_word name ≡ None

-- A group with the keyword `ref`
pub record IsRefGroup (ids : Identifiers) (f : Forest) (t : ValType) : Type 0 where
  pub held : Forest
  pub is : f ≡ Group (Word (codes "ref") held) End
  pub reads : option_map Ref (ref_parts ids held) ≡ Some t

-- The items of an index read as a heap type.
index_heap : (ids : Identifiers) (o : Option Named) (n : ℕ) → index ids (index_items o n) ≡ Some n → heap_type ids (index_items o n) ≡ Some (Index n)
index_heap ids o n e = rw e

null_index : (ids : Identifiers) (o : Option Named) (n : ℕ) → index ids (index_items o n) ≡ Some n →
    ref_parts ids (Word (codes "null") (index_items o n)) ≡ Some (ref_type true (Index n))
unfolding natural numeral heap_of_word
null_index ids None n e = rw (index_heap ids None n e)
null_index ids (Some m) n e = rw (index_heap ids (Some m) n e)

-- An index before other supertypes reads back.
first_supertype : (ids : Identifiers) (o : Option Named) (n : ℕ) (f : Forest) (x : List ℕ × Declared CompositeType) → index ids (index_items o n) ≡ Some n →
    supertypes ids f ≡ Some x → supertypes ids (onto (index_items o n) f) ≡ Some (n ∷ x.0, x.1)
first_supertype ids None n f x e g = rw (e, g)
first_supertype ids (Some m) n f x e g = rw (e, g)

-- ---- types do not start with an identifier

pub identifier_in_front-ref : (names : Names) (null : Bool) (h : HeapType) (f : Forest) → identifier_in_front (onto (ref_items_by names null h) f) ≡ (None, onto (ref_items_by names null h) f)
identifier_in_front-ref names true (Index n) f = refl
identifier_in_front-ref names true _ f = refl
identifier_in_front-ref names false h f = refl

pub identifier_in_front-val : (names : Names) (t : ValType) (f : Forest) → identifier_in_front (onto (val_items names t) f) ≡ (None, onto (val_items names t) f)
identifier_in_front-val names (Ref r) f = identifier_in_front-ref names r.nullable r.heap f
identifier_in_front-val names _ f = refl

-- ---- groups of types

-- The declarations in a group of variables
abbrev pub held_by : Variables → List (Declaration ValType)
held_by (Alone n t) = declaration (Some n.content) t ∷ []
held_by (Together ts) = unnamed ts

abbrev pub held_by_all : List Variables → List (Declaration ValType)
held_by_all [] = []
held_by_all (g ∷ gs) = held_by g ++ held_by_all gs

held-with_variable : (o : Option Named) (t : ValType) (gs : List Variables) → held_by_all (with_variable o t gs) ≡ declaration (id o) t ∷ held_by_all gs
held-with_variable (Some n) t gs = refl
held-with_variable None t [] = refl
held-with_variable None t (Together ts ∷ gs) = refl
held-with_variable None t (Alone n u ∷ gs) = refl

-- The groups of variables declare these variables, in order.
pub held-variable_groups : (named : ℕ → Option Named) (k : ℕ) (ts : List ValType) → held_by_all (variable_groups named k ts) ≡ declared_from named k ts
held-variable_groups named k [] = refl
held-variable_groups named k (t ∷ ts) =
    held-with_variable (named k) t (variable_groups named (k + 1) ts) ∙ ap (λ ds. declaration (id (named k)) t ∷ ds) (held-variable_groups named (k + 1) ts)

-- Groups with another word are not read.
pub groups_leave : {A : Type 0} (names : Names) (read : Forest → Option (List A)) (w v : List ℕ) (ts : List ValType) (f : Forest) → bytes_eq v w ≡ false →
    groups read w f ≡ Some ([], f) → groups read w (onto (group_items names v ts) f) ≡ Some ([], onto (group_items names v ts) f)
unfolding groups
groups_leave names read w v [] f other h = h
groups_leave names read w v (t ∷ ts) f other h = rw other

pub variables_leave : {A : Type 0} (names : Names) (read : Forest → Option (List A)) (w v : List ℕ) (gs : List Variables) (f : Forest) → bytes_eq v w ≡ false →
    groups read w f ≡ Some ([], f) → groups read w (onto (groups_items names v gs) f) ≡ Some ([], onto (groups_items names v gs) f)
unfolding groups
variables_leave names read w v [] f other h = h
variables_leave names read w v (Alone n t ∷ gs) f other h = rw other
variables_leave names read w v (Together ts ∷ gs) f other h = rw other

-- The items do not start with a parameter or a result.
pub record IsAfterSignature (ids : Identifiers) (f : Forest) : Type 0 where
  pub params : groups (variables ids) (codes "param") f ≡ Some ([], f)
  pub results : groups (val_types ids) (codes "result") f ≡ Some ([], f)

pub end_after_signature : (ids : Identifiers) → IsAfterSignature ids End
end_after_signature ids = record { params = no_groups (variables ids) (codes "param"); results = no_groups (val_types ids) (codes "result") }

-- The signature of a type, printed with these identifiers of parameters
abbrev pub printed_signature : (ℕ → Option Named) → FuncType → Signature
printed_signature named t = record { params = declared_from named 0 t.params; results = t.results }

-- The identifiers of the fields of the type with this index
abbrev pub composite_fields : Names → ℕ → CompositeType → Identifiers
composite_fields names i (StructComposite fs) = identifiers (names.fields i) (length fs)
composite_fields names i _ = []

abbrev pub declared_composite : Names → ℕ → CompositeType → Declared CompositeType
declared_composite names i c = with_fields (composite_fields names i c) c

-- The declaration of a type, as it is read
abbrev pub declared_type : Names → ℕ → SubType → Declared SubType
declared_type names i t = with_fields (composite_fields names i t.composite) t

-- Type indices below the bound read as themselves.
module _ (names : Names) (ids : Identifiers) (bound : ℕ) (reads : Reads ids (names.items Types) bound) where
  pub heap_type-items : (h : HeapType) → IsDeclaredHeap bound h → heap_type ids (heap_items names h) ≡ Some h
  unfolding natural numeral heap_of_word
  heap_type-items (Index n) r = index_heap ids (names.items Types n) n (reads n r)
  heap_type-items _ r = refl

  pub ref_item : (null : Bool) (h : HeapType) → IsDeclaredHeap bound h → ReadsItem ref_named (ref_group ids) (ref_items_by names null h) (ref_type null h)
  unfolding ref_of_word
  ref_item true (Index n) r = inr (record { held = Word (codes "ref") (Word (codes "null") (heap_items names (Index n))); is = refl; reads = null_index ids (names.items Types n) n (reads n r) })
  ref_item true _ r = inl (record { name = _; is = refl; reads = refl })
  ref_item false h r = inr (record { held = Word (codes "ref") (heap_items names h); is = refl; reads = rw (heap_type-items h r) })

  -- The items of a value type: a word that no packed type has, or a group with the keyword `ref`
  abbrev pub IsValItem : Forest → ValType → Type 0
  IsValItem f t = IsValWord f t ⊎ IsRefGroup ids f t

  ref_is_item : (null : Bool) (h : HeapType) → IsDeclaredHeap bound h → IsValItem (ref_items_by names null h) (Ref (ref_type null h))
  unfolding ref_of_word number_of_word packed_of_word
  ref_is_item true (Index n) r = inr (record { held = _; is = refl; reads = ap (option_map Ref) (null_index ids (names.items Types n) n (reads n r)) })
  ref_is_item true _ r = inl (record { name = _; is = refl; reads = refl; unpacked = refl })
  ref_is_item false h r = inr (record { held = _; is = refl; reads = rw (heap_type-items h r) })

  pub val_is_item : (t : ValType) → IsDeclaredVal bound t → IsValItem (val_items names t) t
  unfolding number_of_word packed_of_word
  val_is_item (Ref t) r = ref_is_item t.nullable t.heap r
  val_is_item _ r = inl (record { name = _; is = refl; reads = refl; unpacked = refl })

  as_val : (f : Forest) (t : ValType) → IsValItem f t → ReadsItem val_named (val_group ids) f t
  as_val f t (inl w) = inl (record { name = w.name; is = w.is; reads = w.reads })
  as_val f t (inr g) = inr (record { held = Word (codes "ref") g.held; is = g.is; reads = g.reads })

  as_storage : (f : Forest) (t : ValType) → IsValItem f t → ReadsItem storage_named (storage_group ids) f (Val t)
  as_storage f t (inl w) = inl (record { name = w.name; is = w.is; reads = rw (w.unpacked, w.reads) })
  as_storage f t (inr g) = inr (record { held = Word (codes "ref") g.held; is = g.is; reads = rw g.reads })

  as_field : (f : Forest) (t : ValType) → IsValItem f t → ReadsItem field_named (field_group ids) f (field_type false (Val t))
  as_field f t (inl w) = inl (record { name = w.name; is = w.is; reads = rw (w.unpacked, w.reads) })
  as_field f t (inr g) = inr (record { held = Word (codes "ref") g.held; is = g.is; reads = rw g.reads })

  pub val_item : (t : ValType) → IsDeclaredVal bound t → ReadsItem val_named (val_group ids) (val_items names t) t
  val_item t r = as_val (val_items names t) t (val_is_item t r)

  pub val_types-items : (ts : List ValType) → AllByRecursion (IsDeclaredVal bound) ts → val_types ids (types_items names ts) ≡ Some ts
  val_types-items [] r = refl
  val_types-items (t ∷ ts) r = all_items-reads val_named (val_group ids) (val_items names t) t (types_items names ts) ts (val_item t r.0) (val_types-items ts r.1)

  -- The items of a single value type read as that type alone.
  pub val_types-one : (t : ValType) → IsDeclaredVal bound t → val_types ids (val_items names t) ≡ Some (t ∷ [])
  val_types-one t r = rw onto-End at (val_types-items (t ∷ []) (r, tt))

  -- ---- groups of parameters, results and locals

  unnamed-items : (ts : List ValType) → AllByRecursion (IsDeclaredVal bound) ts → variables ids (types_items names ts) ≡ Some (unnamed ts)
  unnamed-items [] r = refl
  unnamed-items (t ∷ ts) r =
      declarations-items (val_types ids) val_named (val_group ids) (val_items names t) t (types_items names ts) (t ∷ ts) (val_item t r.0) (val_types-items (t ∷ ts) r)

  -- Groups of value types with this word read back, if no other group with it follows.
  pub results_take : (w : List ℕ) (ts : List ValType) (f : Forest) → AllByRecursion (IsDeclaredVal bound) ts → groups (val_types ids) w f ≡ Some ([], f) →
      groups (val_types ids) w (onto (group_items names w ts) f) ≡ Some (ts, f)
  unfolding groups
  results_take w [] f r h = h
  results_take w (t ∷ ts) f r h = rw (same_bytes w, val_types-items (t ∷ ts) r, h, append-nil (t ∷ ts))

  groups_take : (w : List ℕ) (gs : List Variables) (f : Forest) → AllByRecursion (HaveTypes (IsDeclaredVal bound)) gs → groups (variables ids) w f ≡ Some ([], f) →
      groups (variables ids) w (onto (groups_items names w gs) f) ≡ Some (held_by_all gs, f)
  unfolding groups
  groups_take w [] f r h = h
  groups_take w (Alone n t ∷ gs) f r h = rw (same_bytes w, val_types-one t r.0, groups_take w gs f r.1 h)
  groups_take w (Together ts ∷ gs) f r h = rw (same_bytes w, unnamed-items ts r.0, groups_take w gs f r.1 h)

  -- The variables k, k + 1, and so on, read back.
  pub variables_take : (named : ℕ → Option Named) (k : ℕ) (w : List ℕ) (ts : List ValType) (f : Forest) → AllByRecursion (IsDeclaredVal bound) ts →
      groups (variables ids) w f ≡ Some ([], f) → groups (variables ids) w (onto (groups_items names w (variable_groups named k ts)) f) ≡ Some (declared_from named k ts, f)
  variables_take named k w ts f r h =
      groups_take w (variable_groups named k ts) f (grouped_types (IsDeclaredVal bound) named k ts r) h ∙ ap (λ ds. Some (ds, f)) (held-variable_groups named k ts)

  -- ---- signatures

  -- A signature reads back before items that are neither parameters nor results.
  pub signature-items : (function : Option ℕ) (t : FuncType) (f : Forest) → IsDeclaredFunc bound t → IsAfterSignature ids f →
      signature ids (onto (signature_items names function t) f) ≡ Some (printed_signature (parameters_of names function) t, f)
  signature-items function t f h b =
      let left : groups (variables ids) (codes "param") (onto (group_items names (codes "result") t.results) f) ≡ Some ([], onto (group_items names (codes "result") t.results) f) =
      groups_leave names (variables ids) (codes "param") (codes "result") t.results f refl b.params in
      let params = variables_take (parameters_of names function) 0 (codes "param") t.params (onto (group_items names (codes "result") t.results) f) h.params left in
      let results = results_take (codes "result") t.results f h.results b.results in
      rw (onto_assoc (groups_items names (codes "param") (variable_groups (parameters_of names function) 0 t.params)) (group_items names (codes "result") t.results) f, params, results)

  signature-alone : (t : FuncType) → IsDeclaredFunc bound t → signature ids (signature_items names None t) ≡ Some (printed_signature (λ i. None) t, End)
  signature-alone t h =
      rw onto-End at (signature-items None t End h (end_after_signature ids))

  -- ---- composite types

  storage_item : (s : StorageType) → IsDeclaredStorage bound s → ReadsItem storage_named (storage_group ids) (storage_items names s) s
  unfolding packed_of_word
  storage_item (Val t) r = as_storage (val_items names t) t (val_is_item t r)
  storage_item I8 r = inl (record { name = _; is = refl; reads = refl })
  storage_item I16 r = inl (record { name = _; is = refl; reads = refl })

  field_item_by : (mut : Bool) (s : StorageType) → IsDeclaredStorage bound s → ReadsItem field_named (field_group ids) (field_items_by names mut s) (field_type mut s)
  unfolding packed_of_word
  field_item_by true s r =
      let held : storage_type ids (storage_items names s) ≡ Some s = one_item-reads storage_named (storage_group ids) (storage_items names s) s (storage_item s r) in
      inr (record { held = _; is = refl; reads = rw held })
  field_item_by false (Val t) r = as_field (val_items names t) t (val_is_item t r)
  field_item_by false I8 r = inl (record { name = _; is = refl; reads = refl })
  field_item_by false I16 r = inl (record { name = _; is = refl; reads = refl })

  field_item : (f : FieldType) → IsDeclaredField bound f → ReadsItem field_named (field_group ids) (field_items names f) f
  field_item f r = field_item_by f.mutable f.storage r

  fields-one : (f : FieldType) → IsDeclaredField bound f → fields ids (field_items names f) ≡ Some (f ∷ [])
  fields-one f r =
      rw onto-End at (all_items-reads field_named (field_group ids) (field_items names f) f End [] (field_item f r) refl)

  -- A field with its identifier reads back.
  declaration-one : (o : Option Named) (f : FieldType) → IsDeclaredField bound f →
      declarations (fields ids) (onto (id_items o) (field_items names f)) ≡ Some (declaration (id o) f ∷ [])
  declaration-one (Some n) f r = rw (fields-one f r)
  declaration-one None f r =
      let e : fields ids (onto (field_items names f) End) ≡ Some (f ∷ []) = rw (onto-End, fields-one f r) in
      rw onto-End at (declarations-items (fields ids) field_named (field_group ids) (field_items names f) f End (f ∷ []) (field_item f r) e)

  struct-items : (named : ℕ → Option Named) (k : ℕ) (fs : List FieldType) → AllByRecursion (IsDeclaredField bound) fs →
      groups (declarations (fields ids)) (codes "field") (struct_items names named k fs) ≡ Some (declared_from named k fs, End)
  unfolding groups
  struct-items named k [] r = refl
  struct-items named k (f ∷ fs) r = rw (declaration-one (named k) f r.0, struct-items named (k + 1) fs r.1)

  -- The identifiers of the fields of each structure type are distinct.
  module _ (apart : (i : ℕ) → AreDistinct (names.fields i)) where
    composite-items : (i : ℕ) (c : CompositeType) → IsDeclaredComposite bound c → IsFewComposite c → composite ids (composite_items names i c) ≡ Some (declared_composite names i c)
    composite-items i (FuncComposite t) r few = rw (signature-alone t r, types_of-declared (λ i. None) 0 t.params)
    composite-items i (ArrayComposite f) r few =
        let e : field ids (field_items names f) ≡ Some f = one_item-reads field_named (field_group ids) (field_items names f) f (field_item f r) in
        rw e
    composite-items i (StructComposite fs) r few =
        rw (
          struct-items (names.fields i) 0 fs r,
          ids_of-declared (names.fields i) 0 fs,
          identifiers_space (names.fields i) (apart i) (length fs) (omega (arith, few)),
          types_of-declared (names.fields i) 0 fs,
        )

    -- ---- subtypes

    supertypes-items : (i : ℕ) (is : List ℕ) (c : CompositeType) → AllByRecursion (λ i. i < bound) is → IsDeclaredComposite bound c → IsFewComposite c →
        supertypes ids (onto (supertype_items names is) (Group (composite_items names i c) End)) ≡ Some (is, declared_composite names i c)
    supertypes-items i [] c h r few = rw (composite-items i c r few)
    supertypes-items i (j ∷ is) c h r few =
        rw (onto_assoc (index_items (names.items Types j) j) (supertype_items names is) (Group (composite_items names i c) End))
        (first_supertype ids (names.items Types j) j _ (is, declared_composite names i c) (reads j h.0) (supertypes-items i is c h.1 r few))

    sub_group-items : (i : ℕ) (final : Bool) (is : List ℕ) (c : CompositeType) → AllByRecursion (λ i. i < bound) is → IsDeclaredComposite bound c → IsFewComposite c →
        subtype ids (sub_group_items names i final is c) ≡ Some (declared_type names i (sub_type final is c))
    unfolding natural numeral
    sub_group-items i true is c h r few = rw (supertypes-items i is c h r few)
    sub_group-items i false is c h r few = rw (supertypes-items i is c h r few)

    alone-items : (i : ℕ) (c : CompositeType) → IsDeclaredComposite bound c → IsFewComposite c → subtype ids (composite_items names i c) ≡ Some (declared_type names i (sub_type true [] c))
    alone-items i (FuncComposite t) r few = rw (composite-items i (FuncComposite t) r few)
    alone-items i (ArrayComposite f) r few = rw (composite-items i (ArrayComposite f) r few)
    alone-items i (StructComposite fs) r few = rw (composite-items i (StructComposite fs) r few)

    sub_by-items : (i : ℕ) (final : Bool) (is : List ℕ) (c : CompositeType) → AllByRecursion (λ i. i < bound) is → IsDeclaredComposite bound c → IsFewComposite c →
        subtype ids (sub_items_by names i final is c) ≡ Some (declared_type names i (sub_type final is c))
    sub_by-items i true [] c h r few = alone-items i c r few
    sub_by-items i true (j ∷ is) c h r few = sub_group-items i true (j ∷ is) c h r few
    sub_by-items i false is c h r few = sub_group-items i false is c h r few

    pub read_type-items : (i : ℕ) (t : SubType) → IsDeclaredSub bound t → IsFewSub t → read_type ids (type_items names i t) ≡ Some (declared_type names i t)
    read_type-items i t r few =
        rw (declaration-items (names.items Types i) (Group (sub_items names i t) End) refl) (sub_by-items i t.final t.supertypes t.composite r.supertypes r.composite few)

    pub read_group-items : (i : ℕ) (ts : List SubType) → AllByRecursion (IsDeclaredSub bound) ts → AllByRecursion IsFewSub ts →
        read_group ids (map_numbered (type_items names) i ts) ≡ Some (map_numbered (declared_type names) i ts)
    read_group-items i [] r few = refl
    read_group-items i (t ∷ ts) r few = rw (read_type-items i t r.0 few.0, read_group-items (i + 1) ts r.1 few.1)

-- The members of a group that is written as one are its types.
pub group_members-items : (names : Names) (i : ℕ) (ts : List SubType) → group_members (members_items names i ts) ≡ Some (map_numbered (type_items names) i ts)
unfolding rows
group_members-items names i [] = refl
group_members-items names i (t ∷ ts) = rw (group_members-items names (i + 1) ts)

-- The types in the declarations of a group are its types.
pub types-declared : (names : Names) (i : ℕ) (ts : List SubType) → map (λ d. d.type) (map_numbered (declared_type names) i ts) ≡ ts
types-declared names i [] = refl
types-declared names i (t ∷ ts) = ap (λ us. t ∷ us) (types-declared names (i + 1) ts)

-- ---- equal signatures

same_heap_refl : (h : HeapType) → same_heap h h ≡ true
same_heap_refl h = eq-eqb (heap_number h) (heap_number h) refl

pub same_flag_refl : (b : Bool) → same_flag b b ≡ true
same_flag_refl true = refl
same_flag_refl false = refl

same_type_refl : (t : ValType) → same_type t t ≡ true
same_type_refl (Ref r) = and_from (same_flag r.nullable r.nullable) (same_heap r.heap r.heap) (same_flag_refl r.nullable) (same_heap_refl r.heap)
same_type_refl _ = refl

same_types_refl : (ts : List ValType) → same_types ts ts ≡ true
same_types_refl [] = refl
same_types_refl (t ∷ ts) = and_from (same_type t t) (same_types ts ts) (same_type_refl t) (same_types_refl ts)

same_func_type_refl : (t : FuncType) → same_func_type t t ≡ true
same_func_type_refl t = and_from (same_types t.params t.params) (same_types t.results t.results) (same_types_refl t.params) (same_types_refl t.results)

-- The printed signature of a type agrees with the type itself, so its parameters have these identifiers.
pub own_parameters : (named : ℕ → Option Named) (t : FuncType) → parameters (printed_signature named t) (Some t) ≡ Some (identifiers named (length t.params))
own_parameters named t = rw (types_of-declared named 0 t.params, same_func_type_refl t, ids_of-declared named 0 t.params)

pub printed_agrees : (named : ℕ → Option Named) (t : FuncType) → agrees (printed_signature named t) t ≡ true
printed_agrees named t = rw (types_of-declared named 0 t.params, same_func_type_refl t)
