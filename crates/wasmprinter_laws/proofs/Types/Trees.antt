-- The items of types, with the identifiers of a module, and that pieces write them
use Rattle.std.proofs.Common.{◌≡◌, ℕ, ◌<◌, ◌^◌, ◌+◌, ◌≤◌, ◌*◌, length, true, false, Bool, List, [], ◌∷◌, Option, Some, None, refl, codes, arith}
use Rattle.std.specs.List.{AllByRecursion}
use Rattle.wasmprinter_spec.specs.Character.{class}
use Rattle.wasmprinter_spec.specs.Forest.{Forest, End, Word, Name, Group, onto}
use Rattle.wasmprinter_spec.specs.Types.{HeapType, Index, RefType, ValType, I32, I64, F32, F64, V128, Ref, StorageType, Val, I8, I16, FieldType, FuncType, CompositeType, FuncComposite, ArrayComposite, StructComposite, SubType}
use Rattle.wasmprinter_spec.specs.Grammar.{Placed}
use Rattle.wasmprinter_spec.specs.Row.{Types}
use Rattle.wasmprinter_spec.specs.Labels.{Named}
use Rattle.wasmprinter_spec.specs.Names.{Names, IsNamed, IsNamedIfAny, AreNamed}
use Rattle.wasmprinter_spec.specs.Placed.{TypeGroup}
use Rattle.wasmprinter_spec.specs.Piece.{OneSpace}
use Rattle.wasmprinter_spec.specs.Layout.Groups.{numbered_pieces}
use Rattle.wasmprinter_spec.specs.Layout.ValTypes.{heap_word, ref_word, type_index_pieces, heap_pieces, null_ref_pieces, ref_pieces_by, ref_pieces, val_pieces, type_list}
use Rattle.wasmprinter_spec.specs.Layout.Variables.{Variables, Alone, Together, with_variable, variable_groups, variables_pieces, groups_pieces}
use Rattle.wasmprinter_spec.specs.Layout.Types.{parameters_of, list_group, signature_pieces, signature_if_any, type_use_pieces, storage_pieces, field_pieces_by, field_pieces, struct_field_pieces, composite_pieces, final_pieces, supertype_pieces, sub_group, sub_pieces_by, sub_pieces, type_pieces, member_pieces, group_pieces_by, type_group_pieces, type_section_pieces}
use Rattle.wasmprinter_laws.proofs.Tokens.Runs.{is_word}
use Rattle.wasmprinter_laws.proofs.Tokens.Pieces.{Edge, Free, Bound}
use Rattle.wasmprinter_laws.proofs.Tokens.Writes.{Writes, is_open, writing, both_write, nothing_writes, loosened, one_space_writes, break_writes, word_writes, group_writes, line_group_writes, line_group_space_writes, plain_group_then, then}
use Rattle.wasmprinter_laws.specs.Listed.{IsSignatureInRange}
use Rattle.wasmprinter_laws.proofs.Types.Ranged.{IsRangedHeap, IsRangedVal, IsRangedStorage, IsRangedField, IsRangedFunc, IsRangedComposite, IsRangedSub, IsRangedGroup}
use Rattle.wasmprinter_laws.proofs.Numbered.{rows, map_numbered, numbered_writes}
use Rattle.wasmprinter_laws.proofs.Identifiers.{index_items, id_items, index_writes, id_and_name_space_writes, identifier_space_writes, declaration_writes}

-- ---- the items

module _ (names : Names) where
  -- The index of a type
  abbrev pub type_index_items : ℕ → Forest
  type_index_items n = index_items (names.items Types n) n

  abbrev pub heap_items : HeapType → Forest
  heap_items (Index n) = type_index_items n
  heap_items h = Word (heap_word h) End

  abbrev pub null_ref_items : HeapType → Forest
  null_ref_items (Index n) = Group (Word (codes "ref") (Word (codes "null") (type_index_items n))) End
  null_ref_items h = Word (ref_word h) End

  abbrev pub ref_items_by : Bool → HeapType → Forest
  ref_items_by true h = null_ref_items h
  ref_items_by false h = Group (Word (codes "ref") (heap_items h)) End

  abbrev pub ref_items : RefType → Forest
  ref_items r = ref_items_by r.nullable r.heap

  abbrev pub val_items : ValType → Forest
  val_items I32 = Word (codes "i32") End
  val_items I64 = Word (codes "i64") End
  val_items F32 = Word (codes "f32") End
  val_items F64 = Word (codes "f64") End
  val_items V128 = Word (codes "v128") End
  val_items (Ref r) = ref_items r

  abbrev pub types_items : List ValType → Forest
  types_items [] = End
  types_items (t ∷ ts) = onto (val_items t) (types_items ts)

  abbrev pub group_items : List ℕ → List ValType → Forest
  group_items w [] = End
  group_items w (t ∷ ts) = Group (Word w (types_items (t ∷ ts))) End

  -- A group of parameters or locals
  abbrev pub variables_items : List ℕ → Variables → Forest
  variables_items w (Alone n t) = Word w (Name n.content (val_items t))
  variables_items w (Together ts) = Word w (types_items ts)

  abbrev pub groups_items : List ℕ → List Variables → Forest
  groups_items w [] = End
  groups_items w (g ∷ gs) = Group (variables_items w g) (groups_items w gs)

  -- The signature of a function with this index, or of no function
  abbrev pub signature_items : Option ℕ → FuncType → Forest
  signature_items f t = onto (groups_items (codes "param") (variable_groups (parameters_of names f) 0 t.params)) (group_items (codes "result") t.results)

  -- The signature, or no items if the type is no function type
  abbrev pub signature_if_any_items : Option ℕ → Option FuncType → Forest
  signature_if_any_items f None = End
  signature_if_any_items f (Some t) = signature_items f t

  -- A type use
  abbrev pub type_use_items : Option ℕ → ℕ → Option FuncType → Forest
  type_use_items f i t = Group (Word (codes "type") (type_index_items i)) (signature_if_any_items f t)

  -- ---- composite types

  abbrev pub storage_items : StorageType → Forest
  storage_items (Val t) = val_items t
  storage_items I8 = Word (codes "i8") End
  storage_items I16 = Word (codes "i16") End

  abbrev pub field_items_by : Bool → StorageType → Forest
  field_items_by true s = Group (Word (codes "mut") (storage_items s)) End
  field_items_by false s = storage_items s

  abbrev pub field_items : FieldType → Forest
  field_items f = field_items_by f.mutable f.storage

  -- Each field of a structure is a group.
  abbrev pub struct_items : (ℕ → Option Named) → ℕ → List FieldType → Forest
  struct_items named k [] = End
  struct_items named k (f ∷ fs) = Group (Word (codes "field") (onto (id_items (named k)) (field_items f))) (struct_items named (k + 1) fs)

  -- The composite type with this index
  abbrev pub composite_items : ℕ → CompositeType → Forest
  composite_items i (FuncComposite t) = Word (codes "func") (signature_items None t)
  composite_items i (ArrayComposite f) = Word (codes "array") (field_items f)
  composite_items i (StructComposite fs) = Word (codes "struct") (struct_items (names.fields i) 0 fs)

  -- ---- subtypes

  abbrev pub final_items : Bool → Forest
  final_items true = Word (codes "final") End
  final_items false = End

  abbrev pub supertype_items : List ℕ → Forest
  supertype_items [] = End
  supertype_items (i ∷ is) = onto (type_index_items i) (supertype_items is)

  abbrev pub sub_group_items : ℕ → Bool → List ℕ → CompositeType → Forest
  sub_group_items i final supers c = Word (codes "sub") (onto (final_items final) (onto (supertype_items supers) (Group (composite_items i c) End)))

  abbrev pub sub_items_by : ℕ → Bool → List ℕ → CompositeType → Forest
  sub_items_by i true [] c = composite_items i c
  sub_items_by i final supers c = sub_group_items i final supers c

  abbrev pub sub_items : ℕ → SubType → Forest
  sub_items i t = sub_items_by i t.final t.supertypes t.composite

  -- The items of a field `type` after its word
  abbrev pub type_items : ℕ → SubType → Forest
  type_items i t = onto (id_items (names.items Types i)) (Group (sub_items i t) End)

  abbrev pub type_field : ℕ → SubType → Forest
  type_field i t = Word (codes "type") (type_items i t)

  -- ---- groups of types

  -- The types of a group, the first of which has this index
  abbrev pub members_items : ℕ → List SubType → Forest
  members_items i ts = rows (map_numbered type_field i ts)

  -- A written group is one field; otherwise each of its types is one.
  abbrev pub type_group_items_by : Bool → Forest → Forest
  type_group_items_by true f = Group (Word (codes "rec") f) End
  type_group_items_by false f = f

  abbrev pub type_group_items : ℕ → TypeGroup → Forest
  type_group_items i g = type_group_items_by g.explicit (members_items i g.types)

  abbrev pub type_section_items : ℕ → List (Placed TypeGroup) → Forest
  type_section_items i [] = End
  type_section_items i (g ∷ gs) = onto (type_group_items i g.value) (type_section_items (i + length g.value.types) gs)

-- ---- groups of parameters and locals

-- The type of each variable has P.
abbrev pub HaveTypes : (ValType → Type 0) → Variables → Type 0
HaveTypes P (Alone n t) = P t
HaveTypes P (Together ts) = AllByRecursion P ts

abbrev pub HaveNames : Variables → Type 0
HaveNames (Alone n t) = IsNamed n
HaveNames (Together ts) = Unit {0}

with_type : (P : ValType → Type 0) (o : Option Named) (t : ValType) (gs : List Variables) → P t → AllByRecursion (HaveTypes P) gs → AllByRecursion (HaveTypes P) (with_variable o t gs)
with_type P (Some n) t gs h k = (h, k)
with_type P None t [] h k = ((h, tt), k)
with_type P None t (Together ts ∷ gs) h k = ((h, k.0), k.1)
with_type P None t (Alone n u ∷ gs) h k = ((h, tt), k)

with_name : (o : Option Named) (t : ValType) (gs : List Variables) → IsNamedIfAny o → AllByRecursion HaveNames gs → AllByRecursion HaveNames (with_variable o t gs)
with_name (Some n) t gs h k = (h, k)
with_name None t [] h k = (tt, k)
with_name None t (Together ts ∷ gs) h k = (tt, k.1)
with_name None t (Alone n u ∷ gs) h k = (tt, k)

pub grouped_types : (P : ValType → Type 0) (named : ℕ → Option Named) (k : ℕ) (ts : List ValType) → AllByRecursion P ts → AllByRecursion (HaveTypes P) (variable_groups named k ts)
grouped_types P named k [] h = tt
grouped_types P named k (t ∷ ts) h = with_type P (named k) t (variable_groups named (k + 1) ts) h.0 (grouped_types P named (k + 1) ts h.1)

pub grouped_names : (named : ℕ → Option Named) → ((i : ℕ) → IsNamedIfAny (named i)) → (k : ℕ) (ts : List ValType) → AllByRecursion HaveNames (variable_groups named k ts)
grouped_names named h k [] = tt
grouped_names named h k (t ∷ ts) = with_name (named k) t (variable_groups named (k + 1) ts) (h k) (grouped_names named h (k + 1) ts)

-- ---- pieces write the items

module _ (names : Names) (named : AreNamed names) where
  pub type_index_writes : (n : ℕ) → n < 2 ^ 32 → Writes Free (type_index_pieces names n) Bound (type_index_items names n)
  unfolding type_index_pieces
  type_index_writes n r = index_writes (names.items Types n) n (named.items Types n) (omega (arith, r))

  pub heap_writes : (h : HeapType) → IsRangedHeap h → Writes Free (heap_pieces names h) Bound (heap_items names h)
  unfolding heap_pieces class
  heap_writes (Index n) r = type_index_writes n r
  heap_writes _ r = search writing

  null_ref_writes : (h : HeapType) → IsRangedHeap h → Writes Free (null_ref_pieces names h) Bound (null_ref_items names h)
  unfolding null_ref_pieces class
  null_ref_writes (Index n) r = line_group_writes (codes "ref") _ refl refl (one_space_writes refl (word_writes refl (one_space_writes refl (heap_writes (Index n) r))))
  null_ref_writes _ r = search writing

  ref_by_writes : (null : Bool) (h : HeapType) → IsRangedHeap h → Writes Free (ref_pieces_by names null h) Bound (ref_items_by names null h)
  unfolding class
  ref_by_writes true h r = null_ref_writes h r
  ref_by_writes false h r = search (writing, heap_writes h r)

  pub ref_writes : (r : RefType) → IsRangedHeap r.heap → Writes Free (ref_pieces names r) Bound (ref_items names r)
  unfolding ref_pieces
  ref_writes r h = ref_by_writes r.nullable r.heap h

  pub val_writes : (t : ValType) → IsRangedVal t → Writes Free (val_pieces names t) Bound (val_items names t)
  unfolding val_pieces class
  val_writes (Ref t) r = ref_writes t r
  val_writes _ r = search writing

  pub type_list_writes : (ts : List ValType) → AllByRecursion IsRangedVal ts → Writes Bound (type_list names ts) Bound (types_items names ts)
  unfolding type_list
  type_list_writes [] r = search writing
  type_list_writes (t ∷ ts) r = one_space_writes refl (then (val_writes t r.0) (type_list_writes ts r.1))

  pub list_group_writes : (w : List ℕ) (ts : List ValType) → is_word w ≡ true → AllByRecursion IsRangedVal ts → Writes Bound (list_group names w ts) Bound (group_items names w ts)
  unfolding list_group
  list_group_writes w [] h r = search writing
  list_group_writes w (t ∷ ts) h r = search (writing, type_list_writes (t ∷ ts) r)

  pub variables_write : {a : Edge} (w : List ℕ) (g : Variables) → is_open a ≡ true → is_word w ≡ true → HaveNames g → HaveTypes IsRangedVal g →
      Writes a (variables_pieces names w g) Bound (Group (variables_items names w g) End)
  unfolding variables_pieces
  variables_write w (Alone n t) e h k r = line_group_writes w _ e h (one_space_writes refl (both_write (id_and_name_space_writes (Some n) k) (val_writes t r)))
  variables_write w (Together ts) e h k r = line_group_writes w _ e h (type_list_writes ts r)

  pub groups_write : (w : List ℕ) (gs : List Variables) → is_word w ≡ true → AllByRecursion HaveNames gs → AllByRecursion (HaveTypes IsRangedVal) gs →
      Writes Bound (groups_pieces names w gs) Bound (groups_items names w gs)
  unfolding groups_pieces
  groups_write w [] h k r = nothing_writes
  groups_write w (g ∷ gs) h k r = one_space_writes refl (both_write (variables_write w g refl h k.0 r.0) (groups_write w gs h k.1 r.1))

  parameters_named : (f : Option ℕ) (i : ℕ) → IsNamedIfAny (parameters_of names f i)
  parameters_named None i = tt
  parameters_named (Some f) i = named.locals f i

  pub signature_writes : (f : Option ℕ) (t : FuncType) → IsRangedFunc t → Writes Bound (signature_pieces names f t) Bound (signature_items names f t)
  unfolding signature_pieces class
  signature_writes f t r =
      both_write
      (groups_write (codes "param") (variable_groups (parameters_of names f) 0 t.params) refl
      (grouped_names (parameters_of names f) (parameters_named f) 0 t.params)
      (grouped_types IsRangedVal (parameters_of names f) 0 t.params r.params))
      (list_group_writes (codes "result") t.results refl r.results)

  pub signature_if_any_writes : (f : Option ℕ) (t : Option FuncType) → IsSignatureInRange t → Writes Bound (signature_if_any names f t) Bound (signature_if_any_items names f t)
  signature_if_any_writes f None r = nothing_writes
  signature_if_any_writes f (Some t) r = signature_writes f t r

  pub type_use_writes : {a : Edge} (f : Option ℕ) (i : ℕ) (t : Option FuncType) → is_open a ≡ true → i < 2 ^ 32 → IsSignatureInRange t →
      Writes a (type_use_pieces names f i t) Bound (type_use_items names f i t)
  unfolding type_use_pieces class
  type_use_writes f i t e h r = both_write (line_group_space_writes (codes "type") _ e refl (type_index_writes i h)) (signature_if_any_writes f t r)

  -- ---- composite types

  storage_writes : (s : StorageType) → IsRangedStorage s → Writes Free (storage_pieces names s) Bound (storage_items names s)
  unfolding storage_pieces class
  storage_writes (Val t) r = val_writes t r
  storage_writes I8 r = search writing
  storage_writes I16 r = search writing

  field_by_writes : (mut : Bool) (s : StorageType) → IsRangedStorage s → Writes Free (field_pieces_by names mut s) Bound (field_items_by names mut s)
  unfolding class
  field_by_writes true s r = plain_group_then {ps = OneSpace ∷ storage_pieces names s} {qs = []} refl refl (one_space_writes refl (storage_writes s r)) nothing_writes
  field_by_writes false s r = storage_writes s r

  field_writes : (o : Option Named) (f : FieldType) → IsNamedIfAny o → IsRangedField f → Writes Bound (field_pieces names o f) Bound (onto (id_items o) (field_items names f))
  unfolding field_pieces
  field_writes o f k r = one_space_writes refl (both_write (identifier_space_writes o k) (field_by_writes f.mutable f.storage r))

  struct_field_writes : (o : Option Named) (f : FieldType) → IsNamedIfAny o → IsRangedField f →
      Writes Bound (struct_field_pieces names o f) Bound (Group (Word (codes "field") (onto (id_items o) (field_items names f))) End)
  unfolding struct_field_pieces class
  struct_field_writes o f k r = one_space_writes refl (plain_group_then {ps = field_pieces names o f} {qs = []} refl refl (field_writes o f k r) nothing_writes)

  struct_writes : (i k : ℕ) (fs : List FieldType) → AllByRecursion IsRangedField fs →
      Writes Bound (numbered_pieces (λ k f. struct_field_pieces names (names.fields i k) f) k fs) Bound (struct_items names (names.fields i) k fs)
  unfolding numbered_pieces
  struct_writes i k [] r = nothing_writes
  struct_writes i k (f ∷ fs) r = both_write (struct_field_writes (names.fields i k) f (named.fields i k) r.0) (struct_writes i (k + 1) fs r.1)

  composite_writes : (i : ℕ) (c : CompositeType) → IsRangedComposite c → Writes Free (composite_pieces names i c) Bound (Group (composite_items names i c) End)
  unfolding composite_pieces class
  composite_writes i (FuncComposite t) r = line_group_writes (codes "func") _ refl refl (signature_writes None t r)
  composite_writes i (ArrayComposite f) r = line_group_writes (codes "array") _ refl refl (field_writes None f tt r)
  composite_writes i (StructComposite fs) r = line_group_writes (codes "struct") _ refl refl (struct_writes i 0 fs r)

  -- ---- subtypes

  final_writes : (final : Bool) → Writes Free (final_pieces names final) Free (final_items names final)
  unfolding class
  final_writes true = search writing
  final_writes false = search writing

  supertypes_write : (is : List ℕ) → AllByRecursion (λ i. i < 2 ^ 32) is → Writes Free (supertype_pieces names is) Free (supertype_items names is)
  unfolding supertype_pieces
  supertypes_write [] r = nothing_writes
  supertypes_write (i ∷ is) r = both_write (type_index_writes i r.0) (one_space_writes refl (supertypes_write is r.1))

  sub_group_writes : (i : ℕ) (final : Bool) (is : List ℕ) (c : CompositeType) → AllByRecursion (λ i. i < 2 ^ 32) is → IsRangedComposite c →
      Writes Free (sub_group names i final is c) Bound (Group (sub_group_items names i final is c) End)
  unfolding sub_group class
  sub_group_writes i final is c r s =
      line_group_writes (codes "sub") _ refl refl (one_space_writes refl (both_write (final_writes final) (both_write (supertypes_write is r) (composite_writes i c s))))

  sub_by_writes : (i : ℕ) (final : Bool) (is : List ℕ) (c : CompositeType) → AllByRecursion (λ i. i < 2 ^ 32) is → IsRangedComposite c →
      Writes Free (sub_pieces_by names i final is c) Bound (Group (sub_items_by names i final is c) End)
  sub_by_writes i true [] c r s = composite_writes i c s
  sub_by_writes i true (j ∷ is) c r s = sub_group_writes i true (j ∷ is) c r s
  sub_by_writes i false is c r s = sub_group_writes i false is c r s

  sub_writes : (i : ℕ) (t : SubType) → IsRangedSub t → Writes Free (sub_pieces names i t) Bound (Group (sub_items names i t) End)
  unfolding sub_pieces
  sub_writes i t r = sub_by_writes i t.final t.supertypes t.composite r.supertypes r.composite

  pub type_writes : {a : Edge} (i : ℕ) (t : SubType) → is_open a ≡ true → i < 2 ^ 64 → IsRangedSub t → Writes a (type_pieces names i t) Bound (Group (type_field names i t) End)
  unfolding type_pieces class
  type_writes i t e h r =
      line_group_space_writes (codes "type") _ e refl
      (both_write (declaration_writes (names.items Types i) i (named.items Types i) h) (one_space_writes refl (sub_writes i t r)))

  -- ---- groups of types

  member_writes : (place i : ℕ) (t : SubType) → i < 2 ^ 64 → IsRangedSub t → Writes Bound (member_pieces names place i t) Bound (Group (type_field names i t) End)
  unfolding member_pieces
  member_writes place i t h r = break_writes (type_writes i t refl h r)

  group_by_writes : (written : Bool) (place i : ℕ) (ts : List SubType) → i + length ts ≤ 2 ^ 64 → AllByRecursion IsRangedSub ts →
      Writes Bound (group_pieces_by names written place i ts) Bound (type_group_items_by names written (members_items names i ts))
  unfolding class
  group_by_writes true place i ts h r =
      let members : Writes Bound (numbered_pieces (member_pieces names place) i ts) Bound (members_items names i ts) =
      numbered_writes IsRangedSub (member_pieces names place) (type_field names) (λ j t k s. member_writes place j t k s) i ts h r in
      group_writes 1 (codes "rec") _ refl refl members
  group_by_writes false place i ts h r =
      numbered_writes IsRangedSub (type_pieces names) (type_field names) (λ j t k s. type_writes j t refl k s) i ts h r

  type_group_writes : (i : ℕ) (g : Placed TypeGroup) → i + length g.value.types ≤ 2 ^ 64 → IsRangedGroup g.value →
      Writes Bound (type_group_pieces names i g) Bound (type_group_items names i g.value)
  unfolding type_group_pieces
  type_group_writes i g h r = break_writes (loosened (group_by_writes g.value.explicit g.place i g.value.types h r.each))

  pub type_section_writes : (i : ℕ) (gs : List (Placed TypeGroup)) → i + length gs * 2 ^ 32 ≤ 2 ^ 64 → AllByRecursion (λ g. IsRangedGroup g.value) gs →
      Writes Bound (type_section_pieces names i gs) Bound (type_section_items names i gs)
  unfolding type_section_pieces
  type_section_writes i [] h r = nothing_writes
  type_section_writes i (g ∷ gs) h r =
      let fits : i + length g.value.types ≤ 2 ^ 64 = omega (arith, h, r.0.count) in
      let rest : i + length g.value.types + length gs * 2 ^ 32 ≤ 2 ^ 64 = omega (arith, h, r.0.count) in
      both_write (type_group_writes i g fits r.0) (type_section_writes (i + length g.value.types) gs rest r.1)
