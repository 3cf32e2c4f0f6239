-- The lengths of the shortest encodings of external types (section 5.3 of the standard), of imports and of exports.
use Rattle.std.specs.Prelude.{◌≡◌, ℕ, List, ◌+◌, ◌≤◌, nat_lt, Bool, true, false, ◌==◌, ◌||◌, Option, Some, None, refl}
use Rattle.std.proofs.Common.{sym, ap, arith}
use Rattle.wasmprinter_spec.specs.Grammar.{some_is}
use Rattle.wasmprinter_spec.specs.Choices.{tested}
use Rattle.wasmprinter_spec.specs.FirstByte.{after_first_byte}
use Rattle.wasmprinter_spec.specs.Types.{ValType, RefType, Limits, limits_of, TableType, table_type_of, MemoryType, memory_type_of, GlobalType, global_type_of, ExternKind, ExternType, FuncExtern, TableExtern, MemoryExtern, GlobalExtern, TagExtern}
use Rattle.wasmprinter_spec.specs.Placed.{Import, import_of, Export, LocalEntry}
use Rattle.wasmprinter_spec.specs.Binary.Limits.{has_bit, limits}
use Rattle.wasmprinter_spec.specs.Binary.Memories.{page_exponent, page, memory_type_after, memory_type}
use Rattle.wasmprinter_spec.specs.Binary.Tables.{table_limits_after, table_type}
use Rattle.wasmprinter_spec.specs.Binary.Globals.{global_type}
use Rattle.wasmprinter_spec.specs.Binary.Tags.{tag}
use Rattle.wasmprinter_spec.specs.Binary.Imports.{extern_type_after, extern_type, import}
use Rattle.wasmprinter_spec.specs.Binary.Exports.{extern_kind_of, export}
use Rattle.wasmprinter_spec.specs.Binary.Code.{local_entry}
use Rattle.wasmprinter_hidden.specs.Lengths.{unsigned_len, max_len, limits_len, table_type_len, memory_type_len, global_type_len, tag_len, extern_type_len, import_len, export_len, local_entry_len}
use Rattle.wasmprinter_hidden.proofs.Combinators.{Measured, same, map_measured, try_map_measured, byte_map_measured, then_measured, succeed_measured, choose_measured, fail_measured, after_measured, only_measured}
use Rattle.wasmprinter_hidden.proofs.Names.{unsigned_measured, u32_measured, name_measured}
use Rattle.wasmprinter_hidden.proofs.ValTypes.{ref_measured, val_measured}
use Rattle.wasmprinter_hidden.proofs.Types.{mutability_measured}

-- ---- Limits and memory types

limits_measured : (bounded : Bool) → Measured same (limits bounded).spells limits_len
limits_measured true =
    map_measured (λ (x : ℕ × ℕ). limits_of x.0 (Some x.1)) (λ x. refl) (λ x y e. ap (λ (z : ℕ × ℕ). limits_of z.0 (Some z.1)) e)
    (then_measured (unsigned_measured 64 (omega arith)) (unsigned_measured 64 (omega arith)))
limits_measured false =
    map_measured (λ min. limits_of min None) (λ min. omega arith) (λ m n e. ap (λ (k : ℕ). limits_of k None) e)
    (unsigned_measured 64 (omega arith))

-- An exponent of a page size is the number that is encoded.
exponent_is : (n k : ℕ) → page_exponent n ≡ Some k → unsigned_len k ≡ unsigned_len n
exponent_is n k e = ap unsigned_len (sym (some_is n k (tested (nat_lt n 64) (Some n) k e).1))

page_measured : (given : Bool) → Measured same (page given).spells max_len
page_measured true = map_measured Some (λ n. refl) (λ m n e. ap Some e) (try_map_measured page_exponent exponent_is u32_measured)
page_measured false = succeed_measured None refl

-- The memory type with these flags.
abbrev memory_of : ℕ → Limits × Option ℕ → MemoryType
memory_of flags x = memory_type_of (has_bit 2 flags) (has_bit 1 flags) x.0 x.1

pub memory_type_measured : Measured same memory_type.spells memory_type_len
memory_type_measured =
    after_measured memory_type_after (λ t. omega arith) (λ flags.
    choose_measured (nat_lt flags 16) _ _
    (map_measured (memory_of flags) (λ x. omega arith) (λ x y e. ap (memory_of flags) e)
    (then_measured (limits_measured (has_bit 0 flags)) (page_measured (has_bit 3 flags)))) fail_measured)

-- ---- Table types, global types and tags

-- A byte of flags, and limits.
abbrev table_limits_len : Bool × Limits → ℕ
table_limits_len x = 1 + limits_len x.1

table_limits_measured : Measured same (after_first_byte table_limits_after).spells table_limits_len
table_limits_measured =
    after_measured table_limits_after (λ x. omega arith) (λ flags.
    choose_measured (flags == 0 || flags == 1 || flags == 4 || flags == 5) _ _
    (map_measured (λ l. (has_bit 2 flags, l)) (λ l. omega arith) (λ k l e. ap (λ (m : Limits). (has_bit 2 flags, m)) e)
    (limits_measured (has_bit 0 flags))) fail_measured)

-- The table type of these elements, of this width and with these limits.
abbrev table_type_of_parts : RefType × (Bool × Limits) → TableType
table_type_of_parts x = table_type_of x.1.0 x.1.1 x.0

pub table_type_measured : Measured same table_type.spells table_type_len
table_type_measured =
    map_measured table_type_of_parts (λ x. omega arith) (λ x y e. ap table_type_of_parts e) (then_measured ref_measured table_limits_measured)

-- The global type of this value type, mutable or not.
abbrev global_type_of_parts : ValType × Bool → GlobalType
global_type_of_parts x = global_type_of x.1 x.0

pub global_type_measured : Measured same global_type.spells global_type_len
global_type_measured =
    map_measured global_type_of_parts (λ x. refl) (λ x y e. ap global_type_of_parts e) (then_measured val_measured mutability_measured)

pub tag_measured : Measured same tag.spells tag_len
tag_measured = map_measured (λ (x : ℕ × ℕ). x.1) (λ x. refl) (λ x y e. ap (λ (z : ℕ × ℕ). z.1) e) (then_measured (only_measured 0x00) u32_measured)

-- ---- External types

-- An external type has at least the byte of its kind.
extern_some : (t : ExternType) → 1 ≤ extern_type_len t
extern_some (FuncExtern n) = omega arith
extern_some (TableExtern t) = omega arith
extern_some (MemoryExtern t) = omega arith
extern_some (GlobalExtern t) = omega arith
extern_some (TagExtern n) = omega arith

extern_measured : Measured same extern_type.spells extern_type_len
extern_measured =
    after_measured extern_type_after extern_some (λ kind.
    choose_measured (kind == 0) _ _ (map_measured FuncExtern (λ n. omega arith) (λ m n e. ap FuncExtern e) u32_measured)
    (choose_measured (kind == 1) _ _ (map_measured TableExtern (λ t. omega arith) (λ s t e. ap TableExtern e) table_type_measured)
    (choose_measured (kind == 2) _ _ (map_measured MemoryExtern (λ t. omega arith) (λ s t e. ap MemoryExtern e) memory_type_measured)
    (choose_measured (kind == 3) _ _ (map_measured GlobalExtern (λ t. omega arith) (λ s t e. ap GlobalExtern e) global_type_measured)
    (choose_measured (kind == 4) _ _ (map_measured TagExtern (λ n. omega arith) (λ m n e. ap TagExtern e) tag_measured) fail_measured)))))

-- ---- Imports, exports and locals

-- The import with these names and this type.
abbrev import_of_parts : List ℕ × (List ℕ × ExternType) → Import
import_of_parts x = import_of x.0 x.1.0 x.1.1

pub import_measured : Measured same import.spells import_len
import_measured =
    map_measured import_of_parts (λ x. omega arith) (λ x y e. ap import_of_parts e)
    (then_measured name_measured (then_measured name_measured extern_measured))

-- The export with this name, kind and index.
abbrev export_of_parts : List ℕ × (ExternKind × ℕ) → Export
export_of_parts x = record { name = x.0; kind = x.1.0; index = x.1.1 }

pub export_measured : Measured same export.spells export_len
export_measured =
    map_measured export_of_parts (λ x. omega arith) (λ x y e. ap export_of_parts e)
    (then_measured name_measured (then_measured (byte_map_measured extern_kind_of) u32_measured))

-- The group of that many locals of this type.
abbrev local_entry_of_parts : ℕ × ValType → LocalEntry
local_entry_of_parts x = record { count = x.0; type = x.1 }

pub local_entry_measured : Measured same local_entry.spells local_entry_len
local_entry_measured =
    map_measured local_entry_of_parts (λ x. refl) (λ x y e. ap local_entry_of_parts e) (then_measured u32_measured val_measured)
