-- The program's heap types, reference types and value types, and the types of the definitions that they represent.
use Rattle.std.specs.Prelude.{List, map, Option, Some}
use Rattle.wasmprinter_spec.specs.Grammar.{Input, ◌>>=◌}
use Rattle.wasmprinter_spec.specs.Binary.ValTypes.{val_type}
use Rattle.wasmprinter_spec.specs.Types.{ref_type}
use Rattle.wasmprinter_spec.specs.Types.{HeapType as DefinedHeap, RefType as DefinedRef, ValType as DefinedType}
use Rattle.wasmprinter_spec.specs.Types as defined
use Rattle.wasmprinter_ops.specs.declared.val_types.HeapType.{HeapType}
use Rattle.wasmprinter_ops.specs.declared.val_types.HeapType.TheVariants as h
use Rattle.wasmprinter_ops.specs.declared.val_types.RefType.{RefType}
use Rattle.wasmprinter_ops.specs.declared.val_types.ValType.{ValType}
use Rattle.wasmprinter_ops.specs.declared.val_types.ValType.TheVariants as t

-- The heap type that a heap type of the program represents.
abbrev pub heap_view : HeapType → DefinedHeap
heap_view h.Exn = defined.Exn
heap_view h.Array = defined.Array
heap_view h.Struct = defined.Struct
heap_view h.I31 = defined.I31
heap_view h.Eq = defined.Eq
heap_view h.Any = defined.Any
heap_view h.Extern = defined.Extern
heap_view h.Func = defined.Func
heap_view h.NoAny = defined.NoAny
heap_view h.NoExtern = defined.NoExtern
heap_view h.NoFunc = defined.NoFunc
heap_view h.NoExn = defined.NoExn
heap_view (h.Index n) = defined.Index n

-- The heap type of the program for one of the definitions.
abbrev pub heap_of_view : DefinedHeap → HeapType
heap_of_view defined.Exn = h.Exn
heap_of_view defined.Array = h.Array
heap_of_view defined.Struct = h.Struct
heap_of_view defined.I31 = h.I31
heap_of_view defined.Eq = h.Eq
heap_of_view defined.Any = h.Any
heap_of_view defined.Extern = h.Extern
heap_of_view defined.Func = h.Func
heap_of_view defined.NoAny = h.NoAny
heap_of_view defined.NoExtern = h.NoExtern
heap_of_view defined.NoFunc = h.NoFunc
heap_of_view defined.NoExn = h.NoExn
heap_of_view (defined.Index n) = h.Index n

-- The reference type that a reference type of the program represents.
abbrev pub ref_view : RefType → DefinedRef
ref_view r = ref_type r.nullable (heap_view r.heap)

-- The reference type of the program for one of the definitions.
abbrev pub ref_of_view : DefinedRef → RefType
ref_of_view r = record { nullable = r.nullable; heap = heap_of_view r.heap }

-- The value type that a value type of the program represents.
abbrev pub val_type_view : ValType → DefinedType
val_type_view t.I32 = defined.I32
val_type_view t.I64 = defined.I64
val_type_view t.F32 = defined.F32
val_type_view t.F64 = defined.F64
val_type_view t.V128 = defined.V128
val_type_view (t.Ref r) = defined.Ref (ref_view r)

-- The value type of the program for one of the definitions.
abbrev pub type_of_view : DefinedType → ValType
type_of_view defined.I32 = t.I32
type_of_view defined.I64 = t.I64
type_of_view defined.F32 = t.F32
type_of_view defined.F64 = t.F64
type_of_view defined.V128 = t.V128
type_of_view (defined.Ref r) = t.Ref (ref_of_view r)

-- Reads a value type, as a value of the program.
abbrev pub type_at : Input → Option (ValType × Input)
type_at at = val_type.parse at >>= λ x. Some (type_of_view x.0, x.1)

-- The value types that value types of the program represent.
abbrev pub val_types_view : List ValType → List DefinedType
val_types_view ts = map val_type_view ts
