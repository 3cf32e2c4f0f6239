-- The program's limits, types and kinds of imports and exports, and those of the definitions that they represent.
use Rattle.std.specs.Prelude.{ℕ, ◌<◌, List, length, Option, Some, None}
use Rattle.wasmprinter_spec.specs.Grammar.{Placed}
use Rattle.wasmprinter_spec.specs.Types.{limits_of, memory_type_of, table_type_of, global_type_of, FuncKind, TableKind, MemoryKind, GlobalKind, TagKind, FuncExtern, TableExtern, MemoryExtern, GlobalExtern, TagExtern}
use Rattle.wasmprinter_spec.specs.Types.{Limits as DefinedLimits, MemoryType as DefinedMemory, TableType as DefinedTable, GlobalType as DefinedGlobal, ExternKind as DefinedKind, ExternType as DefinedExtern}
use Rattle.wasmprinter_spec.specs.Placed.{Import}
use Rattle.wasmprinter_spec.specs.Module.{without_places, imported_types, func_import, table_import, memory_import, global_import, tag_import}
use Rattle.wasmprinter_ops.specs.ValTypes.{ref_view, val_type_view}
use Rattle.wasmprinter_decoder.specs.declared.limits.Limits.{Limits}
use Rattle.wasmprinter_decoder.specs.declared.memories.MemoryType.{MemoryType}
use Rattle.wasmprinter_decoder.specs.declared.table_types.TableType.{TableType}
use Rattle.wasmprinter_decoder.specs.declared.global_types.GlobalType.{GlobalType}
use Rattle.wasmprinter_decoder.specs.declared.exports.ExternKind.{ExternKind}
use Rattle.wasmprinter_decoder.specs.declared.exports.ExternKind.TheVariants as k
use Rattle.wasmprinter_decoder.specs.declared.imports.ExternType.{ExternType}
use Rattle.wasmprinter_decoder.specs.declared.imports.ExternType.TheVariants as x

-- The limits that limits of the program represent.
abbrev pub limits_view : Limits → DefinedLimits
limits_view l = limits_of l.min l.max

-- The memory type that a memory type of the program represents.
abbrev pub memory_type_view : MemoryType → DefinedMemory
memory_type_view m = memory_type_of m.wide m.shared (limits_view m.limits) m.page

-- The table type that a table type of the program represents.
abbrev pub table_type_view : TableType → DefinedTable
table_type_view t = table_type_of t.wide (limits_view t.limits) (ref_view t.element)

-- The global type that a global type of the program represents.
abbrev pub global_type_view : GlobalType → DefinedGlobal
global_type_view g = global_type_of g.mutable (val_type_view g.ty)

-- The type of an import that a type of the program represents.
abbrev pub extern_view : ExternType → DefinedExtern
extern_view (x.Func i) = FuncExtern i
extern_view (x.Table t) = TableExtern (table_type_view t)
extern_view (x.Memory m) = MemoryExtern (memory_type_view m)
extern_view (x.Global g) = GlobalExtern (global_type_view g)
extern_view (x.Tag i) = TagExtern i

-- The exponent of the page size, if given, is below 64.
abbrev pub IsPageExponent : Option ℕ → Type 0
IsPageExponent None = Unit {0}
IsPageExponent (Some exponent) = exponent < 64

-- If the type of an import is that of a memory, the exponent of its page size, if given, is below 64.
abbrev pub HasPageExponent : ExternType → Type 0
HasPageExponent (x.Func i) = Unit {0}
HasPageExponent (x.Table t) = Unit {0}
HasPageExponent (x.Memory m) = IsPageExponent m.page
HasPageExponent (x.Global g) = Unit {0}
HasPageExponent (x.Tag i) = Unit {0}

-- The kind that a kind of the program represents.
abbrev pub kind_view : ExternKind → DefinedKind
kind_view k.Func = FuncKind
kind_view k.Table = TableKind
kind_view k.Memory = MemoryKind
kind_view k.Global = GlobalKind
kind_view k.Tag = TagKind

-- The kind of an import, by its type.
abbrev pub kind_of_type : DefinedExtern → DefinedKind
kind_of_type (FuncExtern i) = FuncKind
kind_of_type (TableExtern t) = TableKind
kind_of_type (MemoryExtern t) = MemoryKind
kind_of_type (GlobalExtern t) = GlobalKind
kind_of_type (TagExtern i) = TagKind

-- The number of imports of a kind.
abbrev pub imported_count : DefinedKind → List (Placed Import) → ℕ
imported_count FuncKind is = length (imported_types func_import (without_places is))
imported_count TableKind is = length (imported_types table_import (without_places is))
imported_count MemoryKind is = length (imported_types memory_import (without_places is))
imported_count GlobalKind is = length (imported_types global_import (without_places is))
imported_count TagKind is = length (imported_types tag_import (without_places is))
