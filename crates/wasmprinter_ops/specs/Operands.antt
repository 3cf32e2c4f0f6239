-- The reference types of casts, by their flags.
use Rattle.std.specs.Prelude.{ℕ, Bool, ◌/◌, ◌%◌, ◌==◌}
use Rattle.wasmprinter_spec.specs.Types.{RefType, ref_type}
use Rattle.wasmprinter_ops.specs.ValTypes.{heap_view}
use Rattle.wasmprinter_ops.specs.declared.val_types.HeapType.{HeapType}

-- Bit 0 of the flags: the first reference type may be null.
abbrev pub source_null : ℕ → Bool
source_null flags = flags % 2 == 1

-- Bit 1 of the flags: the second reference type may be null.
abbrev pub target_null : ℕ → Bool
target_null flags = flags / 2 % 2 == 1

-- The first reference type of a cast with these flags: to this heap type, nullable if bit 0 of the flags is set.
abbrev pub source_type : ℕ → HeapType → RefType
source_type flags heap = ref_type (source_null flags) (heap_view heap)

-- The second reference type of a cast with these flags: to this heap type, nullable if bit 1 of the flags is set.
abbrev pub target_type : ℕ → HeapType → RefType
target_type flags heap = ref_type (target_null flags) (heap_view heap)
