-- Modules with one field, typed by hand, which the worked rows share: a table, a global, an element segment, a
-- data segment, a memory, and imports of each kind. Each sample has its bytes, the module with places that they
-- encode, the module, and the line of its text.
use Rattle.std.specs.Prelude.{ℕ, ◌+◌, pos, List, [], ◌∷◌, ◌++◌, Bool, true, false, length, codes, Option, Some, None}
use Rattle.wasmprinter_spec.specs.Grammar.{Placed}
use Rattle.wasmprinter_spec.specs.Types as types
use Rattle.wasmprinter_spec.specs.Types.{limits_of, ref_type, TableType, table_type_of, MemoryType, memory_type_of, GlobalType, global_type_of, FuncExtern, TableExtern, MemoryExtern, GlobalExtern, TagExtern}
use Rattle.wasmprinter_spec.specs.Operator.{Value, Index, Heap, Operator}
use Rattle.wasmprinter_spec.specs.Placed as layout
use Rattle.wasmprinter_spec.specs.Placed.{table_of, global_of, ElementMode, Passive, Declared, Active, Items, Functions, Expressions, element_of, entry_of, DataMode, PassiveData, ActiveData, data_of, import_of, PlacedModule}
use Rattle.wasmprinter_spec.specs.Module.{Module}
use Rattle.wasmprinter_spec.proofs.Samples.{head_bytes, lines, to_null, func, bare, i32_const, i64_const, empty_placed, empty, made}
use Rattle.wasmprinter_spec.proofs.BlockSamples.{block, end}

pub record Sample : Type 0 where
  pub bytes : List ℕ
  pub placed : PlacedModule
  pub value : Module
  pub text : List ℕ

-- A module with one section with this id, which contains a list of one item
abbrev pub with_item : ℕ → List ℕ → List ℕ
with_item id item = head_bytes ++ id ∷ (length item + 1) ∷ 1 ∷ item

-- The place of the item
abbrev first : ℕ
first = 0xb

abbrev at_first : {A : Type 0} → A → List (Placed A)
at_first x = record { place = first; value = x } ∷ []

abbrev size_with : List ℕ → ℕ
size_with item = first + length item

-- The text of a module with one field
abbrev pub one_field : List ℕ → List ℕ
one_field line = lines (codes "(module" ∷ (codes "  " ++ line) ∷ codes ")" ∷ [])

abbrev pub at : ℕ → Operator → Placed Operator
at place o = record { place = place; value = o }

abbrev pub ref_null_func : Operator
ref_null_func = made 0xd0 (Heap types.Func)

abbrev pub ref_func : ℕ → Operator
ref_func i = made 0xd2 (Index i)

-- ---- tables

abbrev table_sample : List ℕ → TableType → Option (List (Placed Operator)) → Option (List Operator) → List ℕ → Sample
table_sample item t placed init text = record {
  bytes = with_item 4 item;
  placed = record empty_placed { tables = at_first (table_of t placed); size = size_with item };
  value = record empty { tables = table_of t init ∷ [] };
  text = one_field text;
}

abbrev pub plain_table : Sample
plain_table =
    table_sample (0x70 ∷ 0x00 ∷ 0x01 ∷ []) (table_type_of false (limits_of 1 None) (ref_type true types.Func)) None None (codes "(table (;0;) 1 funcref)")

abbrev pub wide_table : Sample
wide_table =
    table_sample (0x6f ∷ 0x05 ∷ 0x01 ∷ 0x02 ∷ []) (table_type_of true (limits_of 1 (Some 2)) (ref_type true types.Extern)) None None (codes "(table (;0;) i64 1 2 externref)")

abbrev pub wide_open_table : Sample
wide_open_table =
    table_sample (0x64 ∷ 0x70 ∷ 0x04 ∷ 0x00 ∷ []) (table_type_of true (limits_of 0 None) (ref_type false types.Func)) None None (codes "(table (;0;) i64 0 (ref func))")

abbrev pub filled_table : Sample
filled_table =
    table_sample (0x40 ∷ 0x00 ∷ 0x70 ∷ 0x00 ∷ 0x01 ∷ 0xd0 ∷ 0x70 ∷ 0x0b ∷ []) (table_type_of false (limits_of 1 None) (ref_type true types.Func))
    (Some (at 0x10 ref_null_func ∷ [])) (Some (ref_null_func ∷ [])) (codes "(table (;0;) 1 funcref ref.null func)")

-- A table with an empty initialiser, which is not within the limits
abbrev pub emptied_table : Sample
emptied_table =
    table_sample (0x40 ∷ 0x00 ∷ 0x70 ∷ 0x01 ∷ 0x00 ∷ 0x01 ∷ 0x0b ∷ []) (table_type_of false (limits_of 0 (Some 1)) (ref_type true types.Func))
    (Some []) (Some []) (codes "(table (;0;) 0 1 funcref )")

abbrev pub tables : List Sample
tables = plain_table ∷ wide_table ∷ wide_open_table ∷ filled_table ∷ []

-- ---- globals

abbrev global_sample : List ℕ → GlobalType → List (Placed Operator) → List Operator → List ℕ → Sample
global_sample item t placed init text = record {
  bytes = with_item 6 item;
  placed = record empty_placed { globals = at_first (global_of t placed); size = size_with item };
  value = record empty { globals = global_of t init ∷ [] };
  text = one_field text;
}

abbrev pub globals : List Sample
globals =
    global_sample (0x7e ∷ 0x01 ∷ 0x42 ∷ 0x05 ∷ 0x0b ∷ []) (global_type_of true types.I64) (at 0xd (i64_const (pos 5)) ∷ []) (i64_const (pos 5) ∷ [])
    (codes "(global (;0;) (mut i64) i64.const 5)")
    ∷ global_sample (0x7f ∷ 0x00 ∷ 0x02 ∷ 0x7f ∷ 0x41 ∷ 0x01 ∷ 0x0b ∷ 0x0b ∷ []) (global_type_of false types.I32)
    (at 0xd (block (Value types.I32)) ∷ at 0xf (i32_const (pos 1)) ∷ at 0x11 end ∷ []) (block (Value types.I32) ∷ i32_const (pos 1) ∷ end ∷ [])
    (codes "(global (;0;) i32 block (result i32)  (; label = @1 ;) i32.const 1 end)")
    ∷ global_sample (0x7f ∷ 0x00 ∷ 0x0b ∷ []) (global_type_of false types.I32) [] [] (codes "(global (;0;) i32 )")
    ∷ global_sample (0x70 ∷ 0x00 ∷ 0xd0 ∷ 0x70 ∷ 0x0b ∷ []) (global_type_of false (to_null types.Func)) (at 0xd ref_null_func ∷ []) (ref_null_func ∷ [])
    (codes "(global (;0;) funcref ref.null func)")
    ∷ global_sample (0x63 ∷ 0x00 ∷ 0x01 ∷ 0xd0 ∷ 0x70 ∷ 0x0b ∷ []) (global_type_of true (to_null (types.Index 0))) (at 0xe ref_null_func ∷ []) (ref_null_func ∷ [])
    (codes "(global (;0;) (mut (ref null 0)) ref.null func)")
    ∷ []

-- ---- element segments

abbrev element_sample : List ℕ → Bool → ElementMode (Placed Operator) → Items (Placed Operator) → ElementMode Operator → Items Operator → List ℕ → Sample
element_sample item names placed_mode placed_items mode items text = record {
  bytes = with_item 9 item;
  placed = record empty_placed { elements = at_first (entry_of names (element_of placed_mode placed_items)); size = size_with item };
  value = record empty { elements = element_of mode items ∷ [] };
  text = one_field text;
}

abbrev pub zero_const : Operator
zero_const = i32_const (pos 0)

-- A segment with each of the eight flags
abbrev pub elements : List Sample
elements =
    element_sample (0x00 ∷ 0x41 ∷ 0x00 ∷ 0x0b ∷ 0x01 ∷ 0x00 ∷ []) false (Active 0 (at 0xc zero_const ∷ [])) (Functions (0 ∷ []))
    (Active 0 (zero_const ∷ [])) (Functions (0 ∷ [])) (codes "(elem (;0;) (i32.const 0) func 0)")
    ∷ element_sample (0x01 ∷ 0x00 ∷ 0x02 ∷ 0x03 ∷ 0x04 ∷ []) false Passive (Functions (3 ∷ 4 ∷ [])) Passive (Functions (3 ∷ 4 ∷ [])) (codes "(elem (;0;) func 3 4)")
    ∷ element_sample (0x02 ∷ 0x00 ∷ 0x41 ∷ 0x00 ∷ 0x0b ∷ 0x00 ∷ 0x00 ∷ []) true (Active 0 (at 0xd zero_const ∷ [])) (Functions [])
    (Active 0 (zero_const ∷ [])) (Functions []) (codes "(elem (;0;) (table 0) (i32.const 0) func)")
    ∷ element_sample (0x03 ∷ 0x00 ∷ 0x01 ∷ 0x00 ∷ []) false Declared (Functions (0 ∷ [])) Declared (Functions (0 ∷ [])) (codes "(elem (;0;) declare func 0)")
    ∷ element_sample (0x04 ∷ 0x41 ∷ 0x00 ∷ 0x0b ∷ 0x01 ∷ 0xd2 ∷ 0x01 ∷ 0x0b ∷ []) false
    (Active 0 (at 0xc zero_const ∷ [])) (Expressions (ref_type true types.Func) ((at 0x10 (ref_func 1) ∷ []) ∷ []))
    (Active 0 (zero_const ∷ [])) (Expressions (ref_type true types.Func) ((ref_func 1 ∷ []) ∷ [])) (codes "(elem (;0;) (i32.const 0) funcref (ref.func 1))")
    ∷ element_sample (0x05 ∷ 0x70 ∷ 0x01 ∷ 0xd0 ∷ 0x70 ∷ 0x0b ∷ []) false
    Passive (Expressions (ref_type true types.Func) ((at 0xe ref_null_func ∷ []) ∷ []))
    Passive (Expressions (ref_type true types.Func) ((ref_null_func ∷ []) ∷ [])) (codes "(elem (;0;) funcref (ref.null func))")
    ∷ element_sample (0x06 ∷ 0x01 ∷ 0x0b ∷ 0x64 ∷ 0x70 ∷ 0x01 ∷ 0x0b ∷ []) true (Active 1 []) (Expressions (ref_type false types.Func) ([] ∷ []))
    (Active 1 []) (Expressions (ref_type false types.Func) ([] ∷ [])) (codes "(elem (;0;) (table 1) (offset ) (ref func) (item ))")
    ∷ element_sample (0x07 ∷ 0x6f ∷ 0x01 ∷ 0x41 ∷ 0x00 ∷ 0xd2 ∷ 0x01 ∷ 0x0b ∷ []) false
    Declared (Expressions (ref_type true types.Extern) ((at 0xe zero_const ∷ at 0x10 (ref_func 1) ∷ []) ∷ []))
    Declared (Expressions (ref_type true types.Extern) ((zero_const ∷ ref_func 1 ∷ []) ∷ [])) (codes "(elem (;0;) declare externref (item i32.const 0 ref.func 1))")
    ∷ element_sample (0x05 ∷ 0x64 ∷ 0x00 ∷ 0x00 ∷ []) false Passive (Expressions (ref_type false (types.Index 0)) [])
    Passive (Expressions (ref_type false (types.Index 0)) []) (codes "(elem (;0;) (ref 0))")
    ∷ []

-- ---- data segments

abbrev data_sample : List ℕ → DataMode (Placed Operator) → DataMode Operator → List ℕ → List ℕ → Sample
data_sample item placed mode bytes text = record {
  bytes = with_item 11 item;
  placed = record empty_placed { data_segments = at_first (data_of placed bytes); size = size_with item };
  value = record empty { data_segments = data_of mode bytes ∷ [] };
  text = one_field text;
}

-- Memory 0 is omitted, even if the bytes name it.
abbrev pub data_segments : List Sample
data_segments =
    data_sample (0x00 ∷ 0x41 ∷ 0x00 ∷ 0x0b ∷ 0x01 ∷ 0x61 ∷ []) (ActiveData 0 (at 0xc zero_const ∷ [])) (ActiveData 0 (zero_const ∷ [])) (codes "a")
    (codes "(data (;0;) (i32.const 0) \"a\")")
    ∷ data_sample (0x00 ∷ 0x0b ∷ 0x00 ∷ []) (ActiveData 0 []) (ActiveData 0 []) [] (codes "(data (;0;) (offset ) \"\")")
    ∷ data_sample (0x01 ∷ 0x03 ∷ 0xff ∷ 0x22 ∷ 0x62 ∷ []) PassiveData PassiveData (0xff ∷ 0x22 ∷ 0x62 ∷ []) (codes "(data (;0;) \"\\ff\\22b\")")
    ∷ data_sample (0x02 ∷ 0x01 ∷ 0x41 ∷ 0x00 ∷ 0x0b ∷ 0x00 ∷ []) (ActiveData 1 (at 0xd zero_const ∷ [])) (ActiveData 1 (zero_const ∷ [])) []
    (codes "(data (;0;) (memory 1) (i32.const 0) \"\")")
    ∷ data_sample (0x02 ∷ 0x00 ∷ 0x41 ∷ 0x00 ∷ 0xd2 ∷ 0x01 ∷ 0x0b ∷ 0x00 ∷ []) (ActiveData 0 (at 0xd zero_const ∷ at 0xf (ref_func 1) ∷ []))
    (ActiveData 0 (zero_const ∷ ref_func 1 ∷ [])) [] (codes "(data (;0;) (offset i32.const 0 ref.func 1) \"\")")
    ∷ []

-- ---- memories

abbrev memory_sample : List ℕ → MemoryType → List ℕ → Sample
memory_sample item t text = record {
  bytes = with_item 5 item;
  placed = record empty_placed { memories = at_first t; size = size_with item };
  value = record empty { memories = t ∷ [] };
  text = one_field text;
}

-- Each flag alone and with others; pages of 1, 2, 2 ^ 16 and 2 ^ 63 bytes
abbrev pub memories : List Sample
memories =
    memory_sample (0x01 ∷ 0x01 ∷ 0x02 ∷ []) (memory_type_of false false (limits_of 1 (Some 2)) None) (codes "(memory (;0;) 1 2)")
    ∷ memory_sample (0x02 ∷ 0x01 ∷ []) (memory_type_of false true (limits_of 1 None) None) (codes "(memory (;0;) 1 shared)")
    ∷ memory_sample (0x03 ∷ 0x01 ∷ 0x02 ∷ []) (memory_type_of false true (limits_of 1 (Some 2)) None) (codes "(memory (;0;) 1 2 shared)")
    ∷ memory_sample (0x04 ∷ 0x01 ∷ []) (memory_type_of true false (limits_of 1 None) None) (codes "(memory (;0;) i64 1)")
    ∷ memory_sample (0x07 ∷ 0x01 ∷ 0x02 ∷ []) (memory_type_of true true (limits_of 1 (Some 2)) None) (codes "(memory (;0;) i64 1 2 shared)")
    ∷ memory_sample (0x08 ∷ 0x01 ∷ 0x00 ∷ []) (memory_type_of false false (limits_of 1 None) (Some 0)) (codes "(memory (;0;) 1 (pagesize 0x1))")
    ∷ memory_sample (0x0a ∷ 0x01 ∷ 0x01 ∷ []) (memory_type_of false true (limits_of 1 None) (Some 1)) (codes "(memory (;0;) 1 shared (pagesize 0x2))")
    ∷ memory_sample (0x0f ∷ 0x01 ∷ 0x02 ∷ 0x10 ∷ []) (memory_type_of true true (limits_of 1 (Some 2)) (Some 16)) (codes "(memory (;0;) i64 1 2 shared (pagesize 0x10000))")
    ∷ memory_sample (0x0c ∷ 0x00 ∷ 0x3f ∷ []) (memory_type_of true false (limits_of 0 None) (Some 63)) (codes "(memory (;0;) i64 0 (pagesize 0x8000000000000000))")
    ∷ []

-- ---- imports of each kind, followed by definitions

abbrev from_m : List ℕ → types.ExternType → layout.Import
from_m name t = import_of (codes "m") name t

abbrev plain_func_table : TableType
plain_func_table = table_type_of false (limits_of 1 None) (ref_type true types.Func)

abbrev pub imports : Sample
imports = record {
  bytes =
      head_bytes
      ++ (0x01 ∷ 0x04 ∷ 0x01 ∷ 0x60 ∷ 0x00 ∷ 0x00 ∷ [])
      ++ (0x02 ∷ 0x2a ∷ 0x06 ∷ [])
      ++ (0x01 ∷ 0x6d ∷ 0x01 ∷ 0x66 ∷ 0x00 ∷ 0x00 ∷ [])
      ++ (0x01 ∷ 0x6d ∷ 0x01 ∷ 0x68 ∷ 0x00 ∷ 0x00 ∷ [])
      ++ (0x01 ∷ 0x6d ∷ 0x01 ∷ 0x74 ∷ 0x01 ∷ 0x70 ∷ 0x00 ∷ 0x01 ∷ [])
      ++ (0x01 ∷ 0x6d ∷ 0x01 ∷ 0x79 ∷ 0x02 ∷ 0x00 ∷ 0x01 ∷ [])
      ++ (0x01 ∷ 0x6d ∷ 0x01 ∷ 0x67 ∷ 0x03 ∷ 0x7f ∷ 0x01 ∷ [])
      ++ (0x01 ∷ 0x6d ∷ 0x01 ∷ 0x78 ∷ 0x04 ∷ 0x00 ∷ 0x00 ∷ [])
      ++ (0x05 ∷ 0x03 ∷ 0x01 ∷ 0x00 ∷ 0x02 ∷ [])
      ++ (0x0d ∷ 0x03 ∷ 0x01 ∷ 0x00 ∷ 0x00 ∷ []);
  placed = record empty_placed {
    types = bare 0xb (func [] []) ∷ [];
    imports =
        record { place = 0x11; value = from_m (codes "f") (FuncExtern 0) }
        ∷ record { place = 0x17; value = from_m (codes "h") (FuncExtern 0) }
        ∷ record { place = 0x1d; value = from_m (codes "t") (TableExtern plain_func_table) }
        ∷ record { place = 0x25; value = from_m (codes "y") (MemoryExtern (memory_type_of false false (limits_of 1 None) None)) }
        ∷ record { place = 0x2c; value = from_m (codes "g") (GlobalExtern (global_type_of true types.I32)) }
        ∷ record { place = 0x33; value = from_m (codes "x") (TagExtern 0) }
        ∷ [];
    memories = record { place = 0x3d; value = memory_type_of false false (limits_of 2 None) None } ∷ [];
    tags = record { place = 0x42; value = 0 } ∷ [];
    size = 0x44;
  };
  value = record empty {
    types = (func [] [] ∷ []) ∷ [];
    imports =
        from_m (codes "f") (FuncExtern 0)
        ∷ from_m (codes "h") (FuncExtern 0)
        ∷ from_m (codes "t") (TableExtern plain_func_table)
        ∷ from_m (codes "y") (MemoryExtern (memory_type_of false false (limits_of 1 None) None))
        ∷ from_m (codes "g") (GlobalExtern (global_type_of true types.I32))
        ∷ from_m (codes "x") (TagExtern 0)
        ∷ [];
    memories = memory_type_of false false (limits_of 2 None) None ∷ [];
    tags = 0 ∷ [];
  };
  text = lines (
      codes "(module"
      ∷ codes "  (type (;0;) (func))"
      ∷ codes "  (import \"m\" \"f\" (func (;0;) (type 0)))"
      ∷ codes "  (import \"m\" \"h\" (func (;1;) (type 0)))"
      ∷ codes "  (import \"m\" \"t\" (table (;0;) 1 funcref))"
      ∷ codes "  (import \"m\" \"y\" (memory (;0;) 1))"
      ∷ codes "  (import \"m\" \"g\" (global (;0;) (mut i32)))"
      ∷ codes "  (import \"m\" \"x\" (tag (;0;) (type 0)))"
      ∷ codes "  (memory (;1;) 2)"
      ∷ codes "  (tag (;1;) (type 0))"
      ∷ codes ")"
      ∷ []);
}
