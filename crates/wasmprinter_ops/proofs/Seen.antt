-- The program's value for a type represents that type.
use Rattle.std.proofs.Common.{◌≡◌, refl, ap}
use Rattle.wasmprinter_spec.specs.Types.{HeapType, RefType, ref_type, ValType, StorageType, FieldType, field_type}
use Rattle.wasmprinter_spec.specs.Types as defined
use Rattle.wasmprinter_ops.specs.ValTypes.{heap_view, heap_of_view, ref_view, ref_of_view, val_type_view, type_of_view}
use Rattle.wasmprinter_ops.specs.Types.{storage_view, storage_of_view, field_view, field_of_view}

heap_seen : (h : HeapType) → heap_view (heap_of_view h) ≡ h
heap_seen defined.Exn = refl
heap_seen defined.Array = refl
heap_seen defined.Struct = refl
heap_seen defined.I31 = refl
heap_seen defined.Eq = refl
heap_seen defined.Any = refl
heap_seen defined.Extern = refl
heap_seen defined.Func = refl
heap_seen defined.NoAny = refl
heap_seen defined.NoExtern = refl
heap_seen defined.NoFunc = refl
heap_seen defined.NoExn = refl
heap_seen (defined.Index n) = refl

ref_seen : (r : RefType) → ref_view (ref_of_view r) ≡ r
ref_seen r = ap (ref_type r.nullable) (heap_seen r.heap)

pub type_seen : (t : ValType) → val_type_view (type_of_view t) ≡ t
type_seen defined.I32 = refl
type_seen defined.I64 = refl
type_seen defined.F32 = refl
type_seen defined.F64 = refl
type_seen defined.V128 = refl
type_seen (defined.Ref r) = ap (λ (r : RefType). defined.Ref r) (ref_seen r)

storage_seen : (s : StorageType) → storage_view (storage_of_view s) ≡ s
storage_seen (defined.Val t) = ap (λ (t : ValType). defined.Val t) (type_seen t)
storage_seen defined.I8 = refl
storage_seen defined.I16 = refl

pub field_seen : (f : FieldType) → field_view (field_of_view f) ≡ f
field_seen f = ap (field_type f.mutable) (storage_seen f.storage)
