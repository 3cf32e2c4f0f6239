-- The parts of sections that bytes encode are in range: limits, the types of memories, tables and globals, imports,
-- expressions and segments.
use Rattle.std.proofs.Common.{◌≡◌, ℕ, ◌<◌, ◌^◌, ◌==◌, ◌||◌, Bool, true, false, ltb, Some, refl, subst, arith}
use Rattle.std.specs.Prelude.{IsUtf8}
use Rattle.std.specs.Str.{is_utf8}
use Rattle.std.proofs.lemmas.Bool.{ltb-true}
use Rattle.std.proofs.lemmas.List.{length-map}
use Rattle.std.proofs.lemmas.Str.{IsUtf8-from_is_utf8}
use Rattle.wasmprinter_spec.specs.Choices.{tested}
use Rattle.wasmprinter_spec.specs.Grammar.{Grammar, some_is, succeed, Placed}
use Rattle.wasmprinter_spec.specs.FirstByte.{only}
use Rattle.wasmprinter_spec.specs.Name.{u32, name}
use Rattle.wasmprinter_spec.specs.Types.{RefType, ref_type, Func}
use Rattle.wasmprinter_spec.specs.Operator.{Operator}
use Rattle.wasmprinter_spec.specs.Placed.{ElementMode, Passive, Declared, Items}
use Rattle.wasmprinter_spec.specs.Instructions.{constant, expression}
use Rattle.wasmprinter_spec.specs.Binary.Types.{mutability}
use Rattle.wasmprinter_spec.specs.Binary.Limits.{has_bit, limits}
use Rattle.wasmprinter_spec.specs.Binary.Memories.{page_exponent, page, memory_type}
use Rattle.wasmprinter_spec.specs.Binary.Tags.{tag}
use Rattle.wasmprinter_spec.specs.Binary.Tables.{table_limits_after, table_type, table_by, table}
use Rattle.wasmprinter_spec.specs.Binary.Globals.{global_type, global}
use Rattle.wasmprinter_spec.specs.Binary.Imports.{extern_type_after, import}
use Rattle.wasmprinter_spec.specs.Binary.Elements as binary
use Rattle.wasmprinter_spec.specs.Binary.Elements.{element_after, element}
use Rattle.wasmprinter_spec.specs.Binary.DataSegments as segments
use Rattle.wasmprinter_spec.specs.Binary.{AreBytes}
use Rattle.wasmprinter_laws.proofs.Ranged.{IsRangedMax, IsRangedPage, IsRangedMemory, IsRangedExpression, IsRangedTableType, IsRangedTable, IsRangedGlobal, IsRangedExtern, IsRangedImport, IsRangedMode, AreRangedItems, IsRangedElement, IsRangedDataMode, IsRangedData}
use Rattle.wasmprinter_laws.proofs.AllSpelled.{AllSpelled, Spelled-of_all, Spelled-any, Spelled-seq, Spelled-try_map, Spelled-map_value, Spelled-succeed, Spelled-fail, Spelled-choose, Spelled-after_first_byte, Spelled-by_first_byte, AllSpelled-take_bytes}
use Rattle.wasmprinter_laws.proofs.Few.{FewSpelled}
use Rattle.wasmprinter_laws.proofs.LebRange.{AllSpelled-unsigned}
use Rattle.wasmprinter_laws.proofs.Vectors.{AllSpelled-u32, Spelled-vec}
use Rattle.wasmprinter_laws.proofs.Types.Ranged.{IsRangedHeap, IsRangedVal}
use Rattle.wasmprinter_laws.proofs.Types.Ranges.{AllSpelled-reference_type, AllSpelled-val_type}
use Rattle.wasmprinter_laws.proofs.Operators.Spelled.{AllSpelled-expression, expression_takes}

-- A name is UTF-8.
pub AllSpelled-name : AllSpelled name IsUtf8
AllSpelled-name = Spelled-try_map (Spelled-any _) (λ text checked e h.
    let t = tested (is_utf8 text) (Some text) checked e in
    subst IsUtf8 (some_is text checked t.1) (IsUtf8-from_is_utf8 text t.0))

-- Limits are below 2 ^ 64.
AllSpelled-limits : (b : Bool) → AllSpelled (limits b) (λ l. (l.min < 2 ^ 64) × IsRangedMax l.max)
AllSpelled-limits true = Spelled-map_value (Spelled-seq (AllSpelled-unsigned 64) (λ _. AllSpelled-unsigned 64)) (λ x h. h)
AllSpelled-limits false = Spelled-map_value (AllSpelled-unsigned 64) (λ n h. (h, tt))

page_ranged : (n e : ℕ) → page_exponent n ≡ Some e → Unit {0} → e < 64
page_ranged n e h _ =
    let t = tested (ltb n 64) (Some n) e h in
    let same : n ≡ e = some_is n e t.1 in
    let less = ltb-true n 64 t.0 in
    omega arith

AllSpelled-page : (b : Bool) → AllSpelled (page b) IsRangedPage
AllSpelled-page true = Spelled-map_value (Spelled-try_map (Spelled-any u32) page_ranged) (λ e h. h)
AllSpelled-page false = Spelled-succeed tt

-- A memory type is in range: its limits and the size of its pages.
pub AllSpelled-memory_type : AllSpelled memory_type IsRangedMemory
AllSpelled-memory_type = Spelled-after_first_byte (λ flags.
    Spelled-choose (ltb flags 16)
    (Spelled-map_value (Spelled-seq (AllSpelled-limits (has_bit 0 flags)) (λ _. AllSpelled-page (has_bit 3 flags)))
    (λ x ((min, max), page). record { min = min; max = max; page = page })) Spelled-fail)

-- The type index of a tag is a number of 32 bits.
pub AllSpelled-tag : AllSpelled tag (λ i. i < 2 ^ 32)
AllSpelled-tag = Spelled-map_value (Spelled-seq (Spelled-any (only 0x00)) (λ _. AllSpelled-u32)) (λ x h. h.1)

-- ---- expressions

-- An expression of fewer than 2 ^ 32 bytes is in range: it has at most as many operators as bytes.
FewSpelled-constant : FewSpelled constant IsRangedExpression
FewSpelled-constant = Spelled-map_value nested (λ x h. h)
  where
    nested : FewSpelled expression (λ x. IsRangedExpression x.items)
    nested = record {
      has = λ p text x few s.
          let h = AllSpelled-expression.has p text x few.0 s in
          record {
            listed = h.listed;
            nested = h.nested;
            count = omega (arith, few.1, expression_takes p text x s, length-map x.items (λ (o : Placed Operator). o.value));
          };
    }

-- ---- tables and globals

-- The limits of a table are below 2 ^ 64.
AllSpelled-table_limits : (flags : ℕ) → AllSpelled (table_limits_after flags) (λ x. (x.1.min < 2 ^ 64) × IsRangedMax x.1.max)
AllSpelled-table_limits flags =
    Spelled-choose (flags == 0 || flags == 1 || flags == 4 || flags == 5)
    (Spelled-map_value (AllSpelled-limits (has_bit 0 flags)) (λ l h. h)) Spelled-fail

-- The type of a table is in range.
AllSpelled-table_type : AllSpelled table_type IsRangedTableType
AllSpelled-table_type =
    Spelled-map_value (Spelled-seq AllSpelled-reference_type (λ _. Spelled-after_first_byte AllSpelled-table_limits))
    (λ x (element, (min, max)). record { min = min; max = max; element = element })

-- A table is in range, with an initialiser or without.
FewSpelled-table_by : (b : ℕ) → FewSpelled (table_by b) IsRangedTable
FewSpelled-table_by b =
    Spelled-choose (b == 0x40)
    (Spelled-map_value (Spelled-seq (Spelled-any (only 0x40)) (λ _.
    Spelled-seq (Spelled-any (only 0x00)) (λ _. Spelled-seq (Spelled-of_all AllSpelled-table_type) (λ _. FewSpelled-constant))))
    (λ x (_, (_, (type, init))). record { type = type; init = init }))
    (Spelled-map_value (Spelled-of_all AllSpelled-table_type) (λ t h. record { type = h; init = tt }))

pub FewSpelled-table : FewSpelled table IsRangedTable
FewSpelled-table = Spelled-by_first_byte FewSpelled-table_by

-- The type of a global is in range.
AllSpelled-global_type : AllSpelled global_type (λ t. IsRangedVal t.type)
AllSpelled-global_type = Spelled-map_value (Spelled-seq AllSpelled-val_type (λ _. Spelled-any mutability)) (λ x h. h.0)

pub FewSpelled-global : FewSpelled global IsRangedGlobal
FewSpelled-global =
    Spelled-map_value (Spelled-seq (Spelled-of_all AllSpelled-global_type) (λ _. FewSpelled-constant)) (λ x h. record { type = h.0; init = h.1 })

-- ---- imports

AllSpelled-extern_type_after : (k : ℕ) → AllSpelled (extern_type_after k) IsRangedExtern
AllSpelled-extern_type_after k =
    Spelled-choose (k == 0) (Spelled-map_value AllSpelled-u32 (λ i h. h))
    (Spelled-choose (k == 1) (Spelled-map_value AllSpelled-table_type (λ t h. h))
    (Spelled-choose (k == 2) (Spelled-map_value AllSpelled-memory_type (λ t h. h))
    (Spelled-choose (k == 3) (Spelled-map_value AllSpelled-global_type (λ t h. h))
    (Spelled-choose (k == 4) (Spelled-map_value AllSpelled-tag (λ i h. h)) Spelled-fail))))

-- An import is in range: two names and a type.
pub AllSpelled-import : AllSpelled import IsRangedImport
AllSpelled-import =
    Spelled-map_value (Spelled-seq AllSpelled-name (λ _. Spelled-seq AllSpelled-name (λ _. Spelled-after_first_byte AllSpelled-extern_type_after)))
    (λ x (source, (name, type)). record { source = source; name = name; type = type })

-- ---- element segments

FewSpelled-active : FewSpelled binary.active (IsRangedMode false)
FewSpelled-active = Spelled-map_value FewSpelled-constant (λ offset h. (refl, h))

FewSpelled-active_in : FewSpelled binary.active_in (IsRangedMode true)
FewSpelled-active_in = Spelled-map_value (Spelled-seq (Spelled-of_all AllSpelled-u32) (λ _. FewSpelled-constant)) (λ x h. (h.0, h.1))

FewSpelled-passive : FewSpelled (succeed Passive) (IsRangedMode false)
FewSpelled-passive = Spelled-succeed tt

FewSpelled-declared : FewSpelled (succeed Declared) (IsRangedMode false)
FewSpelled-declared = Spelled-succeed tt

FewSpelled-functions : FewSpelled binary.function_items AreRangedItems
FewSpelled-functions = Spelled-of_all (Spelled-map_value (Spelled-vec AllSpelled-u32) (λ is h. h.each))

FewSpelled-of_kind : FewSpelled binary.items_of_kind AreRangedItems
FewSpelled-of_kind = Spelled-map_value (Spelled-seq (Spelled-any (only 0x00)) (λ _. FewSpelled-functions)) (λ x h. h.1)

FewSpelled-expressions : (t : RefType) → IsRangedHeap t.heap → FewSpelled (binary.expression_items t) AreRangedItems
FewSpelled-expressions t r = Spelled-map_value (Spelled-vec FewSpelled-constant) (λ es h. (r, h.each))

FewSpelled-of_type : FewSpelled binary.items_of_type AreRangedItems
FewSpelled-of_type =
    Spelled-map_value
    (Spelled-seq (Spelled-of_all AllSpelled-reference_type) (λ t. items_after t)) (λ x h. h.1 h.0)
  where
    items_after : (t : RefType) → FewSpelled (binary.expression_items t) (λ is. IsRangedHeap t.heap → AreRangedItems is)
    items_after t = Spelled-map_value (Spelled-vec FewSpelled-constant) (λ es h r. (r, h.each))

FewSpelled-segment : (names : Bool) {mode : Grammar (ElementMode (Placed Operator))} {items : Grammar (Items (Placed Operator))} →
    FewSpelled mode (IsRangedMode names) → FewSpelled items AreRangedItems → FewSpelled (binary.segment names mode items) IsRangedElement
FewSpelled-segment names m i = Spelled-map_value (Spelled-seq m (λ _. i)) (λ x h. record { mode = h.0; items = h.1 })

FewSpelled-element_after : (flags : ℕ) → FewSpelled (element_after flags) IsRangedElement
FewSpelled-element_after flags =
    Spelled-choose (flags == 0) (FewSpelled-segment false FewSpelled-active FewSpelled-functions)
    (Spelled-choose (flags == 1) (FewSpelled-segment false FewSpelled-passive FewSpelled-of_kind)
    (Spelled-choose (flags == 2) (FewSpelled-segment true FewSpelled-active_in FewSpelled-of_kind)
    (Spelled-choose (flags == 3) (FewSpelled-segment false FewSpelled-declared FewSpelled-of_kind)
    (Spelled-choose (flags == 4) (FewSpelled-segment false FewSpelled-active (FewSpelled-expressions (ref_type true Func) tt))
    (Spelled-choose (flags == 5) (FewSpelled-segment false FewSpelled-passive FewSpelled-of_type)
    (Spelled-choose (flags == 6) (FewSpelled-segment true FewSpelled-active_in FewSpelled-of_type)
    (Spelled-choose (flags == 7) (FewSpelled-segment false FewSpelled-declared FewSpelled-of_type) Spelled-fail)))))))

pub FewSpelled-element : FewSpelled element IsRangedElement
FewSpelled-element = Spelled-map_value (Spelled-seq (Spelled-of_all AllSpelled-u32) (λ flags. FewSpelled-element_after flags)) (λ x h. h.1)

-- ---- data segments

FewSpelled-data_mode : (flags : ℕ) → FewSpelled (segments.data_mode flags) IsRangedDataMode
FewSpelled-data_mode flags =
    Spelled-choose (flags == 0) (Spelled-map_value FewSpelled-constant (λ offset h. (omega arith, h)))
    (Spelled-choose (flags == 1) (Spelled-succeed tt)
    (Spelled-choose (flags == 2) (Spelled-map_value (Spelled-seq (Spelled-of_all AllSpelled-u32) (λ _. FewSpelled-constant)) (λ x h. (h.0, h.1)))
    Spelled-fail))

AllSpelled-byte_vec : AllSpelled segments.byte_vec AreBytes
AllSpelled-byte_vec = Spelled-map_value (Spelled-seq AllSpelled-u32 (λ n. AllSpelled-take_bytes n)) (λ x (_, (_, bytes)). bytes)

pub FewSpelled-data : FewSpelled segments.segment IsRangedData
FewSpelled-data =
    Spelled-map_value (Spelled-seq (Spelled-of_all AllSpelled-u32)
    (λ flags. Spelled-seq (FewSpelled-data_mode flags) (λ _. Spelled-of_all AllSpelled-byte_vec)))
    (λ x (_, (mode, bytes)). record { mode = mode; bytes = bytes })
