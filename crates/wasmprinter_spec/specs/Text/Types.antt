-- Types in the text format (section 6.4 of the standard). `ids` are the identifiers of the module's types.
use Rattle.std.specs.Prelude.{ℕ, List, [], ◌∷◌, Bool, true, false, codes, bytes_eq, Option, Some, None, if◌then◌else◌, option_map, map, slice_get}
use Rattle.wasmprinter_spec.specs.Grammar.{◌>>=◌}
use Rattle.wasmprinter_spec.specs.Forest.{Forest, End, Word, Name, Group}
use Rattle.wasmprinter_spec.specs.Types.{HeapType, Exn, Array, Struct, I31, Eq, Any, Extern, Func, NoAny, NoExtern, NoFunc, NoExn, Index, RefType, ref_type, ValType, I32, I64, F32, F64, V128, Ref, StorageType, Val, I8, I16, FieldType, field_type, FuncType, CompositeType, FuncComposite, ArrayComposite, StructComposite, SubType, sub_type, final_type, concat}
use Rattle.wasmprinter_spec.specs.IndexSpaces.{Identifiers, index_space, index}
use Rattle.wasmprinter_spec.specs.Text.Items.{or_else, lookup, each, one_word, one_item, all_items, identifier_in_front, value_at_end, groups, Declaration, declarations, ids_of, types_of}

-- ---- Value types

-- The abstract heap type of the word (section 6.4, "Heap Types"), or `None` for any other word.
unfoldable pub heap_of_word : List ℕ → Option HeapType
heap_of_word w =
    lookup (
    (codes "exn", Exn) ∷ (codes "array", Array) ∷ (codes "struct", Struct) ∷ (codes "i31", I31)
    ∷ (codes "eq", Eq) ∷ (codes "any", Any) ∷ (codes "extern", Extern) ∷ (codes "func", Func)
    ∷ (codes "none", NoAny) ∷ (codes "noextern", NoExtern) ∷ (codes "nofunc", NoFunc) ∷ (codes "noexn", NoExn) ∷ []) w

-- The heap type of a nullable reference type by its abbreviation (section 6.4, "Reference Types"), or `None` for any
-- other word.
unfoldable pub ref_of_word : List ℕ → Option HeapType
ref_of_word w =
    lookup (
    (codes "exnref", Exn) ∷ (codes "arrayref", Array) ∷ (codes "structref", Struct) ∷ (codes "i31ref", I31)
    ∷ (codes "eqref", Eq) ∷ (codes "anyref", Any) ∷ (codes "externref", Extern) ∷ (codes "funcref", Func)
    ∷ (codes "nullref", NoAny) ∷ (codes "nullexternref", NoExtern) ∷ (codes "nullfuncref", NoFunc) ∷ (codes "nullexnref", NoExn) ∷ []) w

-- The number type or the vector type of the word (section 6.4, "Number Types" and "Vector Types"), or `None` for any
-- other word.
unfoldable pub number_of_word : List ℕ → Option ValType
number_of_word w = lookup ((codes "i32", I32) ∷ (codes "i64", I64) ∷ (codes "f32", F32) ∷ (codes "f64", F64) ∷ (codes "v128", V128) ∷ []) w

-- The packed type of the word, or `None` for any other word.
unfoldable pub packed_of_word : List ℕ → Option StorageType
packed_of_word w = lookup ((codes "i8", I8) ∷ (codes "i16", I16) ∷ []) w

-- The types that a single word represents: reference types (`ref_named`), value types (`val_named`), storage types
-- (`storage_named`) and immutable fields (`field_named`).
abbrev pub ref_named : List ℕ → Option RefType
ref_named w = option_map (ref_type true) (ref_of_word w)

abbrev pub val_named : List ℕ → Option ValType
val_named w = or_else (number_of_word w) (option_map Ref (ref_named w))

abbrev pub storage_named : List ℕ → Option StorageType
storage_named w = or_else (packed_of_word w) (option_map Val (val_named w))

abbrev pub field_named : List ℕ → Option FieldType
field_named w = option_map (field_type false) (storage_named w)

module _ (ids : Identifiers) where
  -- A heap type: an index or an identifier of a type, or the word of an abstract heap type.
  abbrev pub heap_type : Forest → Option HeapType
  heap_type f = or_else (option_map Index (index ids f)) (one_word heap_of_word f)

  -- The heap type after the word `null`.
  abbrev pub null_heap : Forest → Option HeapType
  null_heap (Word w f) = if bytes_eq w (codes "null") then heap_type f else None
  null_heap _ = None

  -- The items after `ref`: a heap type, or `null` and a heap type.
  abbrev pub ref_parts : Forest → Option RefType
  ref_parts f = or_else (option_map (ref_type false) (heap_type f)) (option_map (ref_type true) (null_heap f))

  -- A reference type in parentheses, by the content of the group.
  abbrev pub ref_group : Forest → Option RefType
  ref_group (Word w f) = if bytes_eq w (codes "ref") then ref_parts f else None
  ref_group _ = None

  -- A reference type.
  abbrev pub reference_type : Forest → Option RefType
  reference_type f = one_item ref_named ref_group f

  -- A value type in parentheses, by the content of the group; it is a reference type.
  abbrev pub val_group : Forest → Option ValType
  val_group g = option_map Ref (ref_group g)

  -- A value type.
  abbrev pub val_type : Forest → Option ValType
  val_type f = one_item val_named val_group f

  -- Value types, one after the other.
  abbrev pub val_types : Forest → Option (List ValType)
  val_types f = all_items val_named val_group f

  -- ---- Composite types

  -- A storage type in parentheses, by the content of the group; it is a reference type.
  abbrev pub storage_group : Forest → Option StorageType
  storage_group g = option_map Val (val_group g)

  -- A storage type.
  abbrev pub storage_type : Forest → Option StorageType
  storage_type f = one_item storage_named storage_group f

  -- A storage type in parentheses, or a mutable field.
  abbrev pub field_group : Forest → Option FieldType
  field_group (Word w f) =
      if bytes_eq w (codes "mut")
      then option_map (field_type true) (storage_type f) else option_map (field_type false) (storage_group (Word w f))
  field_group _ = None

  -- A field type.
  abbrev pub field : Forest → Option FieldType
  field f = one_item field_named field_group f

  -- Field types, one after the other.
  abbrev pub fields : Forest → Option (List FieldType)
  fields f = all_items field_named field_group f

  -- The content of a group of parameters or locals: one with an identifier, or any number without.
  abbrev pub variables : Forest → Option (List (Declaration ValType))
  variables f = declarations val_types f

-- A signature. Its parameters may have identifiers.
pub record Signature : Type 0 where
  pub params : List (Declaration ValType)
  pub results : List ValType

-- The function type of the signature.
abbrev pub type_of : Signature → FuncType
type_of s = record { params = types_of s.params; results = s.results }

-- A declared type, and the identifiers of its fields if it is a structure.
pub record Declared (A : Type 0) : Type 0 where
  pub type : A
  pub fields : Identifiers

-- The declared type t, with these identifiers of its fields.
abbrev pub with_fields : {A : Type 0} → Identifiers → A → Declared A
with_fields ids t = record { type = t; fields = ids }

-- The structure type with these fields. Their identifiers are one index space.
abbrev pub struct_of : List (Declaration FieldType) → Option (Declared CompositeType)
struct_of ds = option_map (λ ids. with_fields ids (StructComposite (types_of ds))) (index_space (ids_of ds))

module _ (ids : Identifiers) where
  -- A signature, and the items after it.
  abbrev pub signature : Forest → Option (Signature × Forest)
  signature f = do
    params ← groups (variables ids) (codes "param") f
    results ← groups (val_types ids) (codes "result") params.1
    Some (record { params = params.0; results = results.0 }, results.1)

  -- A composite type, by the content of its group. Only the fields of a structure have identifiers.
  abbrev pub composite : Forest → Option (Declared CompositeType)
  composite (Word w f) =
      if bytes_eq w (codes "func") then signature f >>= value_at_end >>= (λ s. Some (with_fields [] (FuncComposite (type_of s)))) else
      (if bytes_eq w (codes "array") then option_map (λ t. with_fields [] (ArrayComposite t)) (field ids f) else
      (if bytes_eq w (codes "struct") then groups (declarations (fields ids)) (codes "field") f >>= value_at_end >>= struct_of else None))
  composite _ = None

  -- ---- Subtypes

  -- Supertypes, and then a composite type.
  abbrev pub supertypes : Forest → Option (List ℕ × Declared CompositeType)
  supertypes (Group g End) = composite g >>= λ c. Some ([], c)
  supertypes (Word w f) = index ids (Word w End) >>= λ i. supertypes f >>= λ x. Some (i ∷ x.0, x.1)
  supertypes (Name s f) = index ids (Name s End) >>= λ i. supertypes f >>= λ x. Some (i ∷ x.0, x.1)
  supertypes _ = None

  -- Supertypes and then a composite type, after the word `final`.
  abbrev pub final_supertypes : Forest → Option (List ℕ × Declared CompositeType)
  final_supertypes (Word w f) = if bytes_eq w (codes "final") then supertypes f else None
  final_supertypes _ = None

  -- The subtype that is final or not, with these supertypes and this composite type.
  abbrev pub sub_from : Bool → List ℕ × Declared CompositeType → Declared SubType
  sub_from final x = with_fields x.1.fields (sub_type final x.0 x.1.type)

  -- The items after `sub`: supertypes and a composite type, or `final` and these.
  abbrev pub sub_parts : Forest → Option (Declared SubType)
  sub_parts f = or_else (option_map (sub_from false) (supertypes f)) (option_map (sub_from true) (final_supertypes f))

  -- A subtype. A composite type by itself is final and has no supertypes.
  abbrev pub subtype : Forest → Option (Declared SubType)
  subtype (Word w f) =
      if bytes_eq w (codes "sub") then sub_parts f else option_map (λ c. with_fields c.fields (final_type c.type)) (composite (Word w f))
  subtype _ = None

  -- A subtype in a group, after which no item is left.
  abbrev pub one_group : Forest → Option (Declared SubType)
  one_group (Group g End) = subtype g
  one_group _ = None

  -- A type, which may have an identifier before it.
  abbrev pub read_type : Forest → Option (Declared SubType)
  read_type f = one_group (identifier_in_front f).1

  -- The types of a group, each of which may have an identifier.
  abbrev pub read_group : List Forest → Option (List (Declared SubType))
  read_group fs = each read_type fs

-- The contents of the fields `type` of a group `rec`.
abbrev pub group_members : Forest → Option (List Forest)
group_members End = Some []
group_members (Group (Word w f) g) = if bytes_eq w (codes "type") then option_map (λ fs. f ∷ fs) (group_members g) else None
group_members _ = None

-- The types of groups.
abbrev pub group_types : List (List (Declared SubType)) → List (List SubType)
group_types gs = map (λ g. map (λ d. d.type) g) gs

-- The identifiers of the fields of the type, none if there is no type.
abbrev pub declared_fields : Option (Declared SubType) → Identifiers
declared_fields None = []
declared_fields (Some d) = d.fields

-- The identifiers of the fields of the type with index i.
abbrev pub field_space : List (List (Declared SubType)) → ℕ → Identifiers
field_space gs i = declared_fields (slice_get (concat gs) i)
