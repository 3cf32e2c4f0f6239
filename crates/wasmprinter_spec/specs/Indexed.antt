-- Every used index is declared: it is below the number of items in its index space (section 2.5 of the standard,
-- "Indices"). The types of functions, tags, blocks with a type index and indirect calls are function types. A field
-- index is below the number of fields of its type, which is a structure type. This holds for every valid module.
use Rattle.std.specs.Prelude.{◌≡◌, ℕ, ◌+◌, ◌<◌, List, length, Option, Some, None}
use Rattle.std.specs.List.{AllByRecursion}
use Rattle.wasmprinter_spec.specs.Types.{FuncType, HeapType, Index, RefType, ValType, Ref, StorageType, Val, FieldType, CompositeType, FuncComposite, ArrayComposite, StructComposite, SubType, ExternKind, FuncKind, TableKind, MemoryKind, GlobalKind, TagKind, ExternType, FuncExtern, TableExtern, MemoryExtern, GlobalExtern, TagExtern, all_types, signature_at, fields_at}
use Rattle.wasmprinter_spec.specs.Types as any_type
use Rattle.wasmprinter_spec.specs.Operator.{BlockType, Empty, Value, OfType, Catch, One, OneRef, All, AllRef, Immediates, NoImmediates, Block, TryTable, Indices, BranchTable, Heap, Cast, MemoryLane, Lane, I32, I64, F32, F64, Bytes, Operator}
use Rattle.wasmprinter_spec.specs.Row.{Row, Space, Types, Func, Table, Memory, Tag, Global, Elem, Data, Local, Label, Shape, NoneShape, FenceShape, BlockShape, TryTableShape, IndexShape, DefaultIndexShape, PairShape, FieldShape, CountShape, CallShape, SegmentShape, CopyShape, BranchTableShape, SelectShape, HeapShape, RefShape, CastShape, MemoryShape, MemoryLaneShape, LaneShape, I32Shape, I64Shape, F32Shape, F64Shape, VectorShape, LanesShape}
use Rattle.wasmprinter_spec.specs.Operator as operator
use Rattle.wasmprinter_spec.specs.Table.{by_opcode}
use Rattle.wasmprinter_spec.specs.Placed as placed
use Rattle.wasmprinter_spec.specs.Placed.{Export, Import, ElementMode, Passive, Declared, Active, Items, Functions, Expressions, Element, DataMode, PassiveData, ActiveData}
use Rattle.wasmprinter_spec.specs.Module.{Function, Module, imported_types, func_import, table_import, memory_import, global_import, tag_import}

-- ---- Types: each type index in them is below the number of types

module _ (types : ℕ) where
  -- The heap type is abstract, or its type index is declared.
  abbrev pub IsDeclaredHeap : HeapType → Type 0
  IsDeclaredHeap any_type.Exn = Unit {0}
  IsDeclaredHeap any_type.Array = Unit {0}
  IsDeclaredHeap any_type.Struct = Unit {0}
  IsDeclaredHeap any_type.I31 = Unit {0}
  IsDeclaredHeap any_type.Eq = Unit {0}
  IsDeclaredHeap any_type.Any = Unit {0}
  IsDeclaredHeap any_type.Extern = Unit {0}
  IsDeclaredHeap any_type.Func = Unit {0}
  IsDeclaredHeap any_type.NoAny = Unit {0}
  IsDeclaredHeap any_type.NoExtern = Unit {0}
  IsDeclaredHeap any_type.NoFunc = Unit {0}
  IsDeclaredHeap any_type.NoExn = Unit {0}
  IsDeclaredHeap (Index i) = i < types

  -- Each type index in the reference type is declared. `IsDeclaredVal`, `IsDeclaredStorage`, `IsDeclaredField`,
  -- `IsDeclaredFunc` and `IsDeclaredComposite` say the same of a value type, a storage type, a field, a function type
  -- and a composite type.
  abbrev pub IsDeclaredRef : RefType → Type 0
  IsDeclaredRef r = IsDeclaredHeap r.heap

  abbrev pub IsDeclaredVal : ValType → Type 0
  IsDeclaredVal any_type.I32 = Unit {0}
  IsDeclaredVal any_type.I64 = Unit {0}
  IsDeclaredVal any_type.F32 = Unit {0}
  IsDeclaredVal any_type.F64 = Unit {0}
  IsDeclaredVal any_type.V128 = Unit {0}
  IsDeclaredVal (Ref r) = IsDeclaredRef r

  abbrev pub IsDeclaredStorage : StorageType → Type 0
  IsDeclaredStorage any_type.I8 = Unit {0}
  IsDeclaredStorage any_type.I16 = Unit {0}
  IsDeclaredStorage (Val t) = IsDeclaredVal t

  abbrev pub IsDeclaredField : FieldType → Type 0
  IsDeclaredField f = IsDeclaredStorage f.storage

  pub record IsDeclaredFunc (t : FuncType) : Type 0 where
    pub params : AllByRecursion IsDeclaredVal t.params
    pub results : AllByRecursion IsDeclaredVal t.results

  abbrev pub IsDeclaredComposite : CompositeType → Type 0
  IsDeclaredComposite (FuncComposite t) = IsDeclaredFunc t
  IsDeclaredComposite (ArrayComposite f) = IsDeclaredField f
  IsDeclaredComposite (StructComposite fs) = AllByRecursion IsDeclaredField fs

  -- Each supertype is declared, and so is each type index in the composite type.
  pub record IsDeclaredSub (t : SubType) : Type 0 where
    pub supertypes : AllByRecursion (λ i. i < types) t.supertypes
    pub composite : IsDeclaredComposite t.composite

-- ---- Operators

-- The number of items in each index space, the signature of each function type, and the fields of each structure
-- type.
pub record Counts : Type 0 where
  pub types : ℕ
  pub functions : ℕ
  pub tables : ℕ
  pub memories : ℕ
  pub tags : ℕ
  pub globals : ℕ
  pub elems : ℕ
  pub data_segments : ℕ
  pub locals : ℕ
  pub signature : ℕ → Option FuncType
  pub fields : ℕ → Option (List FieldType)

-- n is an index into the space. A label may be any number, since the text can write a branch to a label that does
-- not exist.
abbrev pub IsIndex : Counts → Space → ℕ → Type 0
IsIndex c Types n = n < c.types
IsIndex c Func n = n < c.functions
IsIndex c Table n = n < c.tables
IsIndex c Memory n = n < c.memories
IsIndex c Tag n = n < c.tags
IsIndex c Global n = n < c.globals
IsIndex c Elem n = n < c.elems
IsIndex c Data n = n < c.data_segments
IsIndex c Local n = n < c.locals
IsIndex c Label n = Unit {0}

-- There is a function type.
abbrev pub IsFunctionType : Option FuncType → Type 0
IsFunctionType None = ⊥
IsFunctionType (Some t) = Unit {0}

-- The block type is that of no result, or of a declared value type, or the index of a function type.
abbrev pub IsBlockType : Counts → BlockType → Type 0
IsBlockType c Empty = Unit {0}
IsBlockType c (Value t) = IsDeclaredVal c.types t
IsBlockType c (OfType n) = IsFunctionType (c.signature n)

-- The tag of the catch clause, if it has one, is declared.
abbrev pub IsCatch : Counts → Catch → Type 0
IsCatch c (One t l) = t < c.tags
IsCatch c (OneRef t l) = t < c.tags
IsCatch c (All l) = Unit {0}
IsCatch c (AllRef l) = Unit {0}

-- n is the index of a field of the structure type, and there is such a type.
abbrev pub IsFieldOf : Option (List FieldType) → ℕ → Type 0
IsFieldOf None n = ⊥
IsFieldOf (Some fs) n = n < length fs

-- The immediates have the shape, and each of their indices is declared. A line for each shape.
abbrev pub AreDeclared : Counts → Shape → Immediates → Type 0
AreDeclared c NoneShape NoImmediates = Unit {0}
AreDeclared c FenceShape NoImmediates = Unit {0}
AreDeclared c BlockShape (Block t) = IsBlockType c t
AreDeclared c TryTableShape (TryTable t cs) = IsBlockType c t × AllByRecursion (IsCatch c) cs
AreDeclared c (IndexShape space) (operator.Index n) = IsIndex c space n
AreDeclared c (DefaultIndexShape space) (operator.Index n) = IsIndex c space n
AreDeclared c (PairShape first second) (Indices m n) = IsIndex c first m × IsIndex c second n
AreDeclared c FieldShape (Indices t n) = IsFieldOf (c.fields t) n
AreDeclared c CountShape (Indices t n) = IsIndex c Types t
AreDeclared c CallShape (Indices t n) = IsFunctionType (c.signature t) × IsIndex c Table n
AreDeclared c (SegmentShape segments space) (Indices m n) = IsIndex c segments m × IsIndex c space n
AreDeclared c (CopyShape space) (Indices m n) = IsIndex c space m × IsIndex c space n
AreDeclared c BranchTableShape (BranchTable ls l) = Unit {0}
AreDeclared c SelectShape (operator.Types ts) = AllByRecursion (IsDeclaredVal c.types) ts
AreDeclared c HeapShape (Heap h) = IsDeclaredHeap c.types h
AreDeclared c (RefShape null) (Heap h) = IsDeclaredHeap c.types h
AreDeclared c CastShape (Cast l r s) = IsDeclaredRef c.types r × IsDeclaredRef c.types s
AreDeclared c (MemoryShape natural) (operator.Memory m) = IsIndex c Memory m.memory
AreDeclared c (MemoryLaneShape natural) (MemoryLane m k) = IsIndex c Memory m.memory
AreDeclared c LaneShape (Lane k) = Unit {0}
AreDeclared c I32Shape (I32 z) = Unit {0}
AreDeclared c I64Shape (I64 z) = Unit {0}
AreDeclared c F32Shape (F32 bits) = Unit {0}
AreDeclared c F64Shape (F64 bits) = Unit {0}
AreDeclared c VectorShape (Bytes bs) = Unit {0}
AreDeclared c LanesShape (Bytes bs) = Unit {0}
AreDeclared c _ _ = ⊥

-- The immediates are declared, by the row of the opcode. An opcode that is not listed has no immediates.
abbrev pub AreDeclaredBy : Counts → Option Row → Immediates → Type 0
AreDeclaredBy c None i = ⊥
AreDeclaredBy c (Some r) i = AreDeclared c r.shape i

-- The opcode is listed, the immediates have its shape, and each of their indices is declared.
abbrev pub IsIndexedOperator : Counts → Operator → Type 0
IsIndexedOperator c o = AreDeclaredBy c (by_opcode o.opcode) o.immediates

-- ---- Functions

-- The number of parameters of the function type, 0 if there is no function type.
abbrev pub parameter_count : Option FuncType → ℕ
parameter_count None = 0
parameter_count (Some t) = length t.params

-- The number of types of all groups.
abbrev pub type_count : Module → ℕ
type_count m = length (all_types m.types)

-- The counts outside functions, where there are no locals.
abbrev pub counts_of : Module → Counts
counts_of m = record {
  types = type_count m;
  functions = length (imported_types func_import m.imports) + length m.functions;
  tables = length (imported_types table_import m.imports) + length m.tables;
  memories = length (imported_types memory_import m.imports) + length m.memories;
  tags = length (imported_types tag_import m.imports) + length m.tags;
  globals = length (imported_types global_import m.imports) + length m.globals;
  elems = length m.elements;
  data_segments = length m.data_segments;
  locals = 0;
  signature = signature_at (all_types m.types);
  fields = fields_at (all_types m.types);
}

-- The counts in a function. Its parameters are the first of its locals.
abbrev pub counts_in : Module → Function → Counts
counts_in m f = record (counts_of m) { locals = parameter_count (signature_at (all_types m.types) f.type_index) + length f.locals }

-- The type with index i is a function type.
abbrev pub NamesFunction : Module → ℕ → Type 0
NamesFunction m i = (t : FuncType) × (signature_at (all_types m.types) i ≡ Some t)

-- The type index is that of a function type, and the types of the locals and the operators use declared indices only.
pub record IsIndexedFunction (m : Module) (f : Function) : Type 0 where
  pub type_index : NamesFunction m f.type_index
  pub locals : AllByRecursion (IsDeclaredVal (type_count m)) f.locals
  pub operators : AllByRecursion (IsIndexedOperator (counts_in m f)) f.operators

-- The index space of an export of the kind.
abbrev pub space_of : ExternKind → Space
space_of FuncKind = Func
space_of TableKind = Table
space_of MemoryKind = Memory
space_of GlobalKind = Global
space_of TagKind = Tag

-- The exported item is declared.
abbrev pub IsIndexedExport : Module → Export → Type 0
IsIndexedExport m e = IsIndex (counts_of m) (space_of e.kind) e.index

-- The start function is declared, if there is one.
abbrev pub IsStart : Module → Option ℕ → Type 0
IsStart m None = Unit {0}
IsStart m (Some i) = IsIndex (counts_of m) Func i

-- ---- The other parts of a module

-- Each operator of an expression outside functions uses declared indices only.
abbrev pub IsIndexedExpression : Module → List Operator → Type 0
IsIndexedExpression m os = AllByRecursion (IsIndexedOperator (counts_of m)) os

-- The type of an import uses declared type indices only. The type of a function or a tag is a function type.
abbrev pub IsIndexedExtern : Module → ExternType → Type 0
IsIndexedExtern m (FuncExtern i) = NamesFunction m i
IsIndexedExtern m (TableExtern t) = IsDeclaredRef (type_count m) t.element
IsIndexedExtern m (MemoryExtern t) = Unit {0}
IsIndexedExtern m (GlobalExtern t) = IsDeclaredVal (type_count m) t.type
IsIndexedExtern m (TagExtern i) = NamesFunction m i

-- The type of the import is `IsIndexedExtern`.
abbrev pub IsIndexedImport : Module → Import → Type 0
IsIndexedImport m i = IsIndexedExtern m i.type

-- The initialiser, if there is one, uses declared indices only.
abbrev pub IsIndexedInit : Module → Option (List Operator) → Type 0
IsIndexedInit m None = Unit {0}
IsIndexedInit m (Some os) = IsIndexedExpression m os

-- The type of the elements and the initialiser use declared indices only.
pub record IsIndexedTable (m : Module) (t : placed.Table Operator) : Type 0 where
  pub element : IsDeclaredRef (type_count m) t.type.element
  pub init : IsIndexedInit m t.init

-- The type and the initialiser use declared indices only.
pub record IsIndexedGlobal (m : Module) (g : placed.Global Operator) : Type 0 where
  pub type : IsDeclaredVal (type_count m) g.type.type
  pub init : IsIndexedExpression m g.init

-- The table and the offset of an active segment use declared indices only.
abbrev pub IsIndexedMode : Module → ElementMode Operator → Type 0
IsIndexedMode m Passive = Unit {0}
IsIndexedMode m Declared = Unit {0}
IsIndexedMode m (Active t os) = IsIndex (counts_of m) Table t × IsIndexedExpression m os

-- The function indices are declared, or the reference type and the expressions use declared indices only.
abbrev pub AreIndexedItems : Module → Items Operator → Type 0
AreIndexedItems m (Functions is) = AllByRecursion (IsIndex (counts_of m) Func) is
AreIndexedItems m (Expressions t es) = IsDeclaredRef (type_count m) t × AllByRecursion (IsIndexedExpression m) es

-- The mode and the items use declared indices only.
pub record IsIndexedElement (m : Module) (e : Element Operator) : Type 0 where
  pub mode : IsIndexedMode m e.mode
  pub items : AreIndexedItems m e.items

-- The memory of an active segment is declared, and its offset uses declared indices only.
abbrev pub IsIndexedDataMode : Module → DataMode Operator → Type 0
IsIndexedDataMode m PassiveData = Unit {0}
IsIndexedDataMode m (ActiveData memory os) = IsIndex (counts_of m) Memory memory × IsIndexedExpression m os

-- The mode of the data segment uses declared indices only.
abbrev pub IsIndexedData : Module → placed.Data Operator → Type 0
IsIndexedData m d = IsIndexedDataMode m d.mode

-- Every used index of the module is declared, and each operator is listed and has immediates of its shape.
pub record IsIndexed (m : Module) : Type 0 where
  pub imports : AllByRecursion (IsIndexedImport m) m.imports
  pub tables : AllByRecursion (IsIndexedTable m) m.tables
  pub globals : AllByRecursion (IsIndexedGlobal m) m.globals
  pub elements : AllByRecursion (IsIndexedElement m) m.elements
  pub data_segments : AllByRecursion (IsIndexedData m) m.data_segments
  pub types : AllByRecursion (λ g. AllByRecursion (IsDeclaredSub (type_count m)) g) m.types
  pub functions : AllByRecursion (IsIndexedFunction m) m.functions
  pub tags : AllByRecursion (NamesFunction m) m.tags
  pub exports : AllByRecursion (IsIndexedExport m) m.exports
  pub start : IsStart m m.start
