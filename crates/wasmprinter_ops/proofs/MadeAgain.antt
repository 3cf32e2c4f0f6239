-- Converting immediates to those of the definitions and back gives the original immediates.
use Rattle.std.proofs.Common.{◌≡◌, ℕ, zero, suc, ◌<◌, List, [], ◌∷◌, map, refl, ap, ap₂, arith}
use Rattle.wasmprinter_ops.specs.ValTypes.{heap_view, heap_of_view, val_type_view, type_of_view}
use Rattle.wasmprinter_ops.specs.declared.val_types.HeapType.{HeapType}
use Rattle.wasmprinter_ops.specs.declared.val_types.HeapType.TheVariants as h
use Rattle.wasmprinter_ops.specs.declared.val_types.ValType.{ValType}
use Rattle.wasmprinter_ops.specs.declared.val_types.ValType.TheVariants as t
use Rattle.wasmprinter_ops.specs.Blocks.{block_type_view, catch_view, catch_of_view}
use Rattle.wasmprinter_ops.specs.Immediates.{immediates_view, HasCastFlags}
use Rattle.wasmprinter_ops.specs.Operands.{source_null, target_null}
use Rattle.wasmprinter_ops.specs.OfViews.{block_type_of_view, cast_flags, immediates_of_view}
use Rattle.wasmprinter_ops.specs.declared.block_immediates.BlockType.{BlockType}
use Rattle.wasmprinter_ops.specs.declared.block_immediates.BlockType.TheVariants as block_types
use Rattle.wasmprinter_ops.specs.declared.block_immediates.Catch.{Catch}
use Rattle.wasmprinter_ops.specs.declared.block_immediates.Catch.TheVariants as catch_clauses
use Rattle.wasmprinter_ops.specs.declared.operator.Immediates.{Immediates}
use Rattle.wasmprinter_ops.specs.declared.operator.Immediates.TheVariants as i

heap_again : (x : HeapType) → heap_of_view (heap_view x) ≡ x
heap_again h.Exn = refl
heap_again h.Array = refl
heap_again h.Struct = refl
heap_again h.I31 = refl
heap_again h.Eq = refl
heap_again h.Any = refl
heap_again h.Extern = refl
heap_again h.Func = refl
heap_again h.NoAny = refl
heap_again h.NoExtern = refl
heap_again h.NoFunc = refl
heap_again h.NoExn = refl
heap_again (h.Index n) = refl

type_again : (x : ValType) → type_of_view (val_type_view x) ≡ x
type_again t.I32 = refl
type_again t.I64 = refl
type_again t.F32 = refl
type_again t.F64 = refl
type_again t.V128 = refl
type_again (t.Ref r) = ap (λ (heap : HeapType). t.Ref (record { nullable = r.nullable; heap = heap })) (heap_again r.heap)

block_type_again : (x : BlockType) → block_type_of_view (block_type_view x) ≡ x
block_type_again block_types.Empty = refl
block_type_again (block_types.Value x) = ap (λ (x : ValType). block_types.Value x) (type_again x)
block_type_again (block_types.Func index) = refl

catch_again : (x : Catch) → catch_of_view (catch_view x) ≡ x
catch_again (catch_clauses.One tag label) = refl
catch_again (catch_clauses.OneRef tag label) = refl
catch_again (catch_clauses.All label) = refl
catch_again (catch_clauses.AllRef label) = refl

-- If this holds for each item, it holds for a list.
all_again : {A B : Type 0} (make : B → A) (see : A → B) → ((x : A) → make (see x) ≡ x) → (xs : List A) → map make (map see xs) ≡ xs
all_again make see again [] = refl
all_again make see again (x ∷ xs) = λ i. again x i ∷ all_again make see again xs i

flags_again : (flags : ℕ) → flags < 4 → cast_flags (source_null flags) (target_null flags) ≡ flags
flags_again zero lt = refl
flags_again (suc zero) lt = refl
flags_again (suc (suc zero)) lt = refl
flags_again (suc (suc (suc zero))) lt = refl
flags_again (suc (suc (suc (suc flags)))) lt = absurd (omega arith)

pub immediates_again : (x : Immediates) → HasCastFlags x → immediates_of_view (immediates_view x) ≡ x
immediates_again i.None has = refl
immediates_again (i.Block x) has = ap (λ (x : BlockType). i.Block x) (block_type_again x)
immediates_again (i.TryTable x cs) has = ap₂ (λ (x : BlockType) (cs : List Catch). i.TryTable x cs) (block_type_again x) (all_again catch_of_view catch_view catch_again cs)
immediates_again (i.Index n) has = refl
immediates_again (i.Indices n k) has = refl
immediates_again (i.BrTable ls l) has = refl
immediates_again (i.Types ts) has = ap (λ (ts : List ValType). i.Types ts) (all_again type_of_view val_type_view type_again ts)
immediates_again (i.Heap x) has = ap (λ (x : HeapType). i.Heap x) (heap_again x)
immediates_again (i.Cast flags l s t) has = λ j. i.Cast (flags_again flags has j) l (heap_again s j) (heap_again t j)
immediates_again (i.Memory m) has = refl
immediates_again (i.MemoryLane m k) has = refl
immediates_again (i.Lane k) has = refl
immediates_again (i.I32 n) has = refl
immediates_again (i.I64 n) has = refl
immediates_again (i.F32 bits) has = refl
immediates_again (i.F64 bits) has = refl
immediates_again (i.Bytes bs) has = refl
