-- The number of bytes of the shortest encoding of each value of the binary format (chapter 5 of the standard). A value may
-- have longer encodings too: a number in LEB128 may have more bytes than needed (section 5.2, "Integers"), and some values
-- have a short and a long form.
use Rattle.std.specs.Prelude.{ℕ, zero, suc, ℤ, pos, negsuc, ◌+◌, ◌*◌, ◌/◌, List, [], ◌∷◌, length, Bool, true, false, ◌&&◌, ◌==◌, nat_lt, if◌then◌else◌, Option, Some, None}
use Rattle.wasmprinter_spec.specs.Grammar.{Placed}
use Rattle.wasmprinter_spec.specs.Types.{HeapType, Index as TypeIndex, RefType, ValType, Ref, StorageType, Val, FieldType, CompositeType, FuncComposite, ArrayComposite, StructComposite, SubType, Limits, TableType, MemoryType, GlobalType, ExternType, FuncExtern, TableExtern, MemoryExtern, GlobalExtern, TagExtern}
use Rattle.wasmprinter_spec.specs.Operator.{Opcode, BlockType, Empty, Value, OfType, Catch, One, OneRef, All, AllRef, MemArg, Immediates, NoImmediates, Block, TryTable, Index, Indices, BranchTable, Types, Heap, Cast, Memory, MemoryLane, Lane, I32, I64, F32, F64, Bytes, Operator}
use Rattle.wasmprinter_spec.specs.Customs.Producers.{Value as FieldValue, Field}
use Rattle.wasmprinter_spec.specs.Customs.Dylink.{MemInfo, ExportInfo, ImportInfo, SubsectionContent, Sizes, Needed, Exports, Imports, Paths, Other}
use Rattle.wasmprinter_spec.specs.Customs.Hints.{Hint, FunctionHints}
use Rattle.wasmprinter_spec.specs.Placed.{TypeGroup, LocalEntry, Export, Import, Table, Global, ElementMode, Passive, Declared, Active, Items, Functions, Expressions, ElementEntry, DataMode, PassiveData, ActiveData, Data}

-- ---- Numbers and lists (sections 5.1 and 5.2)

-- The number of digits of n in base 128, at least 1 and at most `most + 1`. The first argument is `most`.
abbrev pub digits : ℕ → ℕ → ℕ
digits zero n = 1
digits (suc most) n = if nat_lt n 128 then 1 else suc (digits most (n / 128))

-- An unsigned integer of at most 64 bits: a byte for each digit in base 128, and ten digits are enough.
abbrev pub unsigned_len : ℕ → ℕ
unsigned_len n = digits 9 n

-- A signed integer of at most 64 bits. Its last byte also has the sign: there are as many bytes as for an unsigned integer
-- with one bit more.
abbrev pub signed_len : ℤ → ℕ
signed_len (pos n) = unsigned_len (2 * n)
signed_len (negsuc n) = unsigned_len (2 * n)

-- The sum of the lengths of the items.
abbrev pub items_len : {A : Type 0} → (A → ℕ) → List A → ℕ
items_len len [] = 0
items_len len (x ∷ xs) = len x + items_len len xs

-- A count, and the items.
abbrev pub list_len : {A : Type 0} → (A → ℕ) → List A → ℕ
list_len len xs = unsigned_len (length xs) + items_len len xs

-- A length, and that many bytes.
abbrev pub bytes_len : List ℕ → ℕ
bytes_len bytes = unsigned_len (length bytes) + length bytes

-- ---- Types (section 5.3)

-- A heap type: a byte if it is abstract, otherwise a type index, which is a signed integer.
abbrev pub heap_type_len : HeapType → ℕ
heap_type_len (TypeIndex n) = signed_len (pos n)
heap_type_len _ = 1

-- A reference type: the heap type, after a byte that says whether it is nullable. A nullable reference to an abstract heap
-- type needs no such byte.
abbrev pub ref_type_parts_len : Bool → HeapType → ℕ
ref_type_parts_len nullable (TypeIndex n) = 1 + signed_len (pos n)
ref_type_parts_len true _ = 1
ref_type_parts_len false _ = 2

abbrev pub ref_type_len : RefType → ℕ
ref_type_len t = ref_type_parts_len t.nullable t.heap

-- A value type: a reference type, or one byte.
abbrev pub val_type_len : ValType → ℕ
val_type_len (Ref t) = ref_type_len t
val_type_len _ = 1

-- A storage type: a value type, or the byte of a packed type.
abbrev pub storage_type_len : StorageType → ℕ
storage_type_len (Val t) = val_type_len t
storage_type_len _ = 1

-- A field type: the storage type, and a byte that says whether the field is mutable.
abbrev pub field_type_len : FieldType → ℕ
field_type_len t = storage_type_len t.storage + 1

-- A composite type: a byte for its kind, and its types.
abbrev pub composite_type_len : CompositeType → ℕ
composite_type_len (FuncComposite t) = 1 + list_len val_type_len t.params + list_len val_type_len t.results
composite_type_len (ArrayComposite t) = 1 + field_type_len t
composite_type_len (StructComposite ts) = 1 + list_len field_type_len ts

-- A subtype: a byte that says whether it is final, the supertypes, and the composite type. A final type without supertypes
-- needs only the composite type.
abbrev pub sub_type_parts_len : Bool → List ℕ → CompositeType → ℕ
sub_type_parts_len true [] t = composite_type_len t
sub_type_parts_len final supertypes t = 1 + list_len unsigned_len supertypes + composite_type_len t

abbrev pub sub_type_len : SubType → ℕ
sub_type_len t = sub_type_parts_len t.final t.supertypes t.composite

-- A group of types: a byte and a list if it is explicit, otherwise its only type.
abbrev pub group_len : TypeGroup → ℕ
group_len g = if g.explicit then 1 + list_len sub_type_len g.types else items_len sub_type_len g.types

-- The maximum of limits, if there is one.
abbrev pub max_len : Option ℕ → ℕ
max_len None = 0
max_len (Some max) = unsigned_len max

-- Limits without their flags: the minimum, and the maximum if there is one.
abbrev pub limits_len : Limits → ℕ
limits_len l = unsigned_len l.min + max_len l.max

-- A table type: the type of the elements, a byte of flags, and limits.
abbrev pub table_type_len : TableType → ℕ
table_type_len t = ref_type_len t.element + 1 + limits_len t.limits

-- A memory type: a byte of flags, limits, and the exponent of the page size if there is one.
abbrev pub memory_type_len : MemoryType → ℕ
memory_type_len t = 1 + limits_len t.limits + max_len t.page

-- A global type: the value type, and a byte that says whether the global is mutable.
abbrev pub global_type_len : GlobalType → ℕ
global_type_len t = val_type_len t.type + 1

-- A tag type: a byte, and the index of its type.
abbrev pub tag_len : ℕ → ℕ
tag_len type_index = 1 + unsigned_len type_index

-- An external type: a byte for its kind, and the type.
abbrev pub extern_type_len : ExternType → ℕ
extern_type_len (FuncExtern type_index) = 1 + unsigned_len type_index
extern_type_len (TableExtern t) = 1 + table_type_len t
extern_type_len (MemoryExtern t) = 1 + memory_type_len t
extern_type_len (GlobalExtern t) = 1 + global_type_len t
extern_type_len (TagExtern type_index) = 1 + tag_len type_index

-- ---- Operators (section 5.4)

-- An opcode: its byte, or the prefix and the number.
abbrev pub opcode_len : Opcode → ℕ
opcode_len o = if o.prefix == 0 then 1 else 1 + unsigned_len o.number

-- A block type: the byte 40, a value type, or a type index, which is a signed integer.
abbrev pub block_type_len : BlockType → ℕ
block_type_len Empty = 1
block_type_len (Value t) = val_type_len t
block_type_len (OfType n) = signed_len (pos n)

-- A catch clause: a byte for its kind, the tag if it has one, and the label.
abbrev pub catch_len : Catch → ℕ
catch_len (One tag label) = 1 + unsigned_len tag + unsigned_len label
catch_len (OneRef tag label) = 1 + unsigned_len tag + unsigned_len label
catch_len (All label) = 1 + unsigned_len label
catch_len (AllRef label) = 1 + unsigned_len label

-- The index of a memory in a memory operand. The bytes may omit the index 0.
abbrev pub memory_len : ℕ → ℕ
memory_len memory = if memory == 0 then 0 else unsigned_len memory

-- A memory operand: a byte with the exponent of the alignment, which is below 64; the memory unless it is memory 0; and the
-- offset.
abbrev pub mem_arg_len : MemArg → ℕ
mem_arg_len m = 1 + memory_len m.memory + unsigned_len m.offset

-- The immediates of an operator.
abbrev pub immediates_len : Immediates → ℕ
immediates_len NoImmediates = 0
immediates_len (Block t) = block_type_len t
immediates_len (TryTable t catches) = block_type_len t + list_len catch_len catches
immediates_len (Index n) = unsigned_len n
immediates_len (Indices m n) = unsigned_len m + unsigned_len n
immediates_len (BranchTable labels default) = list_len unsigned_len labels + unsigned_len default
immediates_len (Types ts) = list_len val_type_len ts
immediates_len (Heap t) = heap_type_len t
immediates_len (Cast label from to) = 1 + unsigned_len label + heap_type_len from.heap + heap_type_len to.heap
immediates_len (Memory m) = mem_arg_len m
immediates_len (MemoryLane m lane) = mem_arg_len m + 1
immediates_len (Lane lane) = 1
immediates_len (I32 z) = signed_len z
immediates_len (I64 z) = signed_len z
immediates_len (F32 bits) = 4
immediates_len (F64 bits) = 8
immediates_len (Bytes bytes) = 16

-- The reserved byte after the opcode of `atomic.fence`, which is no immediate.
abbrev pub reserved_len : Opcode → ℕ
reserved_len o = if (o.prefix == 0xfe) && (o.number == 3) then 1 else 0

-- An operator: the opcode, the reserved byte if there is one, and the immediates.
abbrev pub operator_len : Operator → ℕ
operator_len o = opcode_len o.opcode + reserved_len o.opcode + immediates_len o.immediates

-- An expression: the operators, and the byte of the last `end`.
abbrev pub expression_len : List (Placed Operator) → ℕ
expression_len ops = items_len (λ o. operator_len o.value) ops + 1

-- ---- Entries of sections (section 5.5)

-- An import: two names and an external type.
abbrev pub import_len : Import → ℕ
import_len i = bytes_len i.source + bytes_len i.name + extern_type_len i.type

-- The initialiser of a table, after two bytes, if there is one.
abbrev pub table_init_len : Option (List (Placed Operator)) → ℕ
table_init_len None = 0
table_init_len (Some init) = 2 + expression_len init

-- A table: its type, and its initialiser.
abbrev pub table_len : Table (Placed Operator) → ℕ
table_len t = table_init_len t.init + table_type_len t.type

-- A global: its type and its initialiser.
abbrev pub global_len : Global (Placed Operator) → ℕ
global_len g = global_type_len g.type + expression_len g.init

-- An export: a name, a byte for the kind, and an index.
abbrev pub export_len : Export → ℕ
export_len e = bytes_len e.name + 1 + unsigned_len e.index

-- The table index of an element segment, if the bytes have it.
abbrev pub table_index_len : Bool → ℕ → ℕ
table_index_len false table = 0
table_index_len true table = unsigned_len table

-- The mode of an element segment, without its flags. The first argument says whether the bytes have the table index.
abbrev pub element_mode_len : Bool → ElementMode (Placed Operator) → ℕ
element_mode_len has_index Passive = 0
element_mode_len has_index Declared = 0
element_mode_len has_index (Active table offset) = table_index_len has_index table + expression_len offset

-- The segment is active and the bytes have no table index. Then the type of its items is not encoded.
abbrev pub omits_type : Bool → ElementMode (Placed Operator) → Bool
omits_type false (Active table offset) = true
omits_type has_index mode = false

-- The items of an element segment. The first argument says whether their type is omitted.
abbrev pub element_items_len : Bool → Items (Placed Operator) → ℕ
element_items_len omits (Functions indices) = (if omits then 0 else 1) + list_len unsigned_len indices
element_items_len omits (Expressions t expressions) = (if omits then 0 else ref_type_len t) + list_len expression_len expressions

-- An element segment: a byte of flags, the mode, and the items.
abbrev pub element_len : ElementEntry → ℕ
element_len e =
    1 + element_mode_len e.has_table_index e.element.mode + element_items_len (omits_type e.has_table_index e.element.mode) e.element.items

-- The mode of a data segment, after its flags. The bytes may omit the index of memory 0.
abbrev pub data_mode_len : DataMode (Placed Operator) → ℕ
data_mode_len PassiveData = 0
data_mode_len (ActiveData memory offset) = memory_len memory + expression_len offset

-- A data segment: a byte of flags, the mode, and the bytes.
abbrev pub data_len : Data (Placed Operator) → ℕ
data_len d = 1 + data_mode_len d.mode + bytes_len d.bytes

-- A group of locals: their number and their type.
abbrev pub local_entry_len : LocalEntry → ℕ
local_entry_len e = unsigned_len e.count + val_type_len e.type

-- ---- The data of custom sections

-- A name in a name section: its index, and the name (appendix "Name Section" of the standard).
abbrev pub association_len : ℕ × List ℕ → ℕ
association_len x = unsigned_len x.0 + bytes_len x.1

-- A value of a field of `producers`: its name and its version (tool conventions, "Producers Section").
abbrev pub field_value_len : FieldValue → ℕ
field_value_len v = bytes_len v.name + bytes_len v.version

-- A field of `producers`: its name and its values.
abbrev pub field_len : Field → ℕ
field_len f = bytes_len f.name + list_len (λ v. field_value_len v.value) f.values

-- The memory and the table space of `dylink.0`: four numbers (tool conventions, "Dynamic Linking").
abbrev pub mem_info_len : MemInfo → ℕ
mem_info_len m = unsigned_len m.memory_size + unsigned_len m.memory_alignment + unsigned_len m.table_size + unsigned_len m.table_alignment

-- An exported symbol: its name and its flags.
abbrev pub export_info_len : ExportInfo → ℕ
export_info_len e = bytes_len e.name + unsigned_len e.flags

-- An imported symbol: two names, and its flags.
abbrev pub import_info_len : ImportInfo → ℕ
import_info_len i = bytes_len i.source + bytes_len i.name + unsigned_len i.flags

-- The content of a subsection of `dylink.0`. That of an unknown subsection can be empty, since its bytes are no part of the
-- value.
abbrev pub dylink_content_len : SubsectionContent → ℕ
dylink_content_len (Sizes m) = mem_info_len m
dylink_content_len (Needed names) = list_len bytes_len names
dylink_content_len (Exports es) = list_len export_info_len es
dylink_content_len (Imports is) = list_len import_info_len is
dylink_content_len (Paths names) = list_len bytes_len names
dylink_content_len (Other id) = 0

-- A subsection of `dylink.0`: its id, its size and its content.
abbrev pub dylink_subsection_len : SubsectionContent → ℕ
dylink_subsection_len content = 1 + unsigned_len (dylink_content_len content) + dylink_content_len content

-- A branch hint: its offset, a byte for the size of its flag, and the flag (Code Metadata).
abbrev pub hint_len : Hint → ℕ
hint_len h = unsigned_len h.offset + 2

-- The branch hints of a function: its index and the hints.
abbrev pub function_hints_len : FunctionHints → ℕ
function_hints_len e = unsigned_len e.function + list_len (λ h. hint_len h.value) e.hints
