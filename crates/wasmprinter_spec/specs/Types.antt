-- Types (section 2.3 of the standard): value types, composite types, and subtypes in their groups.
use Rattle.std.specs.Prelude.{ℕ, List, [], ◌∷◌, ◌++◌, Bool, true, Option, Some, None, slice_get}

-- A heap type: an abstract one, or a type by its index.
pub data HeapType : Type 0 where
  Exn : HeapType
  Array : HeapType
  Struct : HeapType
  I31 : HeapType
  Eq : HeapType
  Any : HeapType
  Extern : HeapType
  Func : HeapType
  NoAny : HeapType  -- `none` in the text format
  NoExtern : HeapType
  NoFunc : HeapType
  NoExn : HeapType
  Index : ℕ → HeapType

-- A reference type: whether it is nullable, and its heap type.
pub record RefType : Type 0 where
  pub nullable : Bool
  pub heap : HeapType

-- The reference type that is nullable or not, to this heap type.
abbrev pub ref_type : Bool → HeapType → RefType
ref_type null h = record { nullable = null; heap = h }

-- A value type: a number type, the vector type, or a reference type.
pub data ValType : Type 0 where
  I32 : ValType
  I64 : ValType
  F32 : ValType
  F64 : ValType
  V128 : ValType
  Ref : RefType → ValType

-- A storage type, of a field of a structure or an array: a value type or a packed integer type.
pub data StorageType : Type 0 where
  Val : ValType → StorageType
  I8 : StorageType
  I16 : StorageType

-- A field type: a storage type, and whether the field is mutable.
pub record FieldType : Type 0 where
  pub storage : StorageType
  pub mutable : Bool

-- The field type that is mutable or not, with this storage type.
abbrev pub field_type : Bool → StorageType → FieldType
field_type mut s = record { storage = s; mutable = mut }

-- A function type: the types of its parameters and of its results.
pub record FuncType : Type 0 where
  pub params : List ValType
  pub results : List ValType

-- A composite type: a function type, an array type or a structure type.
pub data CompositeType : Type 0 where
  FuncComposite : FuncType → CompositeType
  ArrayComposite : FieldType → CompositeType
  StructComposite : List FieldType → CompositeType

-- A subtype: whether it is final, the indices of its supertypes, and a composite type.
pub record SubType : Type 0 where
  pub final : Bool
  pub supertypes : List ℕ
  pub composite : CompositeType

-- The subtype that is final or not, with these supertypes and this composite type.
abbrev pub sub_type : Bool → List ℕ → CompositeType → SubType
sub_type final supers c = record { final = final; supertypes = supers; composite = c }

-- A composite type by itself is final and has no supertypes.
abbrev pub final_type : CompositeType → SubType
final_type c = sub_type true [] c

-- ---- Types outside the type section

-- Limits: the minimum size, and the maximum size if there is one.
pub record Limits : Type 0 where
  pub min : ℕ
  pub max : Option ℕ

-- The limits with this minimum and, if there is one, this maximum.
abbrev pub limits_of : ℕ → Option ℕ → Limits
limits_of min max = record { min = min; max = max }

-- A memory type: whether addresses have 64 bits, whether threads may share the memory, its size in pages, and the
-- exponent of the page size. (No exponent and the exponent 16 are different values with the same page size.)
pub record MemoryType : Type 0 where
  pub wide : Bool
  pub shared : Bool
  pub limits : Limits
  pub page : Option ℕ

-- The memory type with these fields: `wide`, `shared`, the limits and the exponent of the page size.
abbrev pub memory_type_of : Bool → Bool → Limits → Option ℕ → MemoryType
memory_type_of wide shared l page = record { wide = wide; shared = shared; limits = l; page = page }

-- A table type: whether indices have 64 bits, the size, and the type of the elements.
pub record TableType : Type 0 where
  pub wide : Bool
  pub limits : Limits
  pub element : RefType

-- The table type with these fields: `wide`, the limits and the type of the elements.
abbrev pub table_type_of : Bool → Limits → RefType → TableType
table_type_of wide l t = record { wide = wide; limits = l; element = t }

-- A global type: whether the global is mutable, and its value type.
pub record GlobalType : Type 0 where
  pub mutable : Bool
  pub type : ValType

-- The global type that is mutable or not, with this value type.
abbrev pub global_type_of : Bool → ValType → GlobalType
global_type_of mut t = record { mutable = mut; type = t }

-- A kind of items that can be imported and exported (section 2.3.16 of the standard, "External Types").
pub data ExternKind : Type 0 where
  FuncKind : ExternKind
  TableKind : ExternKind
  MemoryKind : ExternKind
  GlobalKind : ExternKind
  TagKind : ExternKind

-- The type of an import. A function or a tag has the index of its type.
pub data ExternType : Type 0 where
  FuncExtern : ℕ → ExternType
  TableExtern : TableType → ExternType
  MemoryExtern : MemoryType → ExternType
  GlobalExtern : GlobalType → ExternType
  TagExtern : ℕ → ExternType

-- ---- Types by their indices

-- The lists joined, in order.
abbrev pub concat : {A : Type 0} → List (List A) → List A
concat [] = []
concat (xs ∷ xss) = xs ++ concat xss

-- The types of all groups. The position of a type in this list is its type index.
abbrev pub all_types : List (List SubType) → List SubType
all_types groups = concat groups

-- The function type in the composite type, or `None` if it is not a function type.
abbrev pub func_type_of : CompositeType → Option FuncType
func_type_of (FuncComposite t) = Some t
func_type_of _ = None

-- The function type in the subtype; `None` if there is no subtype, or if it is not a function type.
abbrev pub signature_of : Option SubType → Option FuncType
signature_of None = None
signature_of (Some t) = func_type_of t.composite

-- The function type with index i; None if there is no such type, or if it is not a function type.
abbrev pub signature_at : List SubType → ℕ → Option FuncType
signature_at types i = signature_of (slice_get types i)

-- The fields of the structure type, or `None` if the composite type is not a structure type.
abbrev pub fields_of : CompositeType → Option (List FieldType)
fields_of (StructComposite fs) = Some fs
fields_of _ = None

-- The fields of the structure type in the subtype; `None` if there is no subtype, or if it is not a structure type.
abbrev pub structure_of : Option SubType → Option (List FieldType)
structure_of None = None
structure_of (Some t) = fields_of t.composite

-- The fields of the structure type with index i; None if there is no such type, or if it is not a structure type.
abbrev pub fields_at : List SubType → ℕ → Option (List FieldType)
fields_at types i = structure_of (slice_get types i)
