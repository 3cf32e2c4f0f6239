-- Nested operators, typed by hand, which the worked rows share: their bytes without the expression's final `end`,
-- the operators that these encode, and their lines in a body.
use Rattle.std.specs.Prelude.{ℕ, pos, List, [], ◌∷◌, codes}
use Rattle.wasmprinter_spec.specs.Types as types
use Rattle.wasmprinter_spec.specs.Types.{SubType}
use Rattle.wasmprinter_spec.specs.Operator.{BlockType, Empty, Value, OfType, Catch, One, OneRef, All, AllRef, NoImmediates, Block, TryTable, Index, BranchTable, Operator}
use Rattle.wasmprinter_spec.proofs.Samples.{to, to_null, func, i32_const, made}

-- ---- operators

abbrev pub nop : Operator
nop = made 0x01 NoImmediates

abbrev pub block : BlockType → Operator
block t = made 0x02 (Block t)

abbrev pub loop : BlockType → Operator
loop t = made 0x03 (Block t)

abbrev pub if_op : BlockType → Operator
if_op t = made 0x04 (Block t)

abbrev pub else_op : Operator
else_op = made 0x05 NoImmediates

abbrev pub try_op : BlockType → Operator
try_op t = made 0x06 (Block t)

abbrev pub catch_op : ℕ → Operator
catch_op tag = made 0x07 (Index tag)

abbrev pub throw : ℕ → Operator
throw tag = made 0x08 (Index tag)

abbrev pub rethrow : ℕ → Operator
rethrow l = made 0x09 (Index l)

abbrev pub end : Operator
end = made 0x0b NoImmediates

abbrev pub br : ℕ → Operator
br l = made 0x0c (Index l)

abbrev pub br_if : ℕ → Operator
br_if l = made 0x0d (Index l)

abbrev pub br_table : List ℕ → ℕ → Operator
br_table ls l = made 0x0e (BranchTable ls l)

abbrev pub delegate : ℕ → Operator
delegate l = made 0x18 (Index l)

abbrev pub catch_all : Operator
catch_all = made 0x19 NoImmediates

abbrev pub try_table : BlockType → List Catch → Operator
try_table t cs = made 0x1f (TryTable t cs)

-- ---- samples

-- The types of the module that contains the samples
abbrev pub sample_types : List SubType
sample_types = func (types.I32 ∷ []) [] ∷ func [] (types.I32 ∷ []) ∷ []

pub record Sample : Type 0 where
  pub bytes : List ℕ
  pub operators : List Operator
  pub lines : List (List ℕ)

abbrev sample : List ℕ → List Operator → List (List ℕ) → Sample
sample bs os ls = record { bytes = bs; operators = os; lines = ls }

-- Labels of a block, of the body itself, and of neither
abbrev branches : List Sample
branches =
    sample (0x02 ∷ 0x40 ∷ 0x0c ∷ 0x00 ∷ 0x0c ∷ 0x01 ∷ 0x0b ∷ []) (block Empty ∷ br 0 ∷ br 1 ∷ end ∷ [])
    (codes "block ;; label = @1" ∷ codes "  br 0 (;@1;)" ∷ codes "  br 1" ∷ codes "end" ∷ [])
    ∷ sample (0x0c ∷ 0x07 ∷ []) (br 7 ∷ []) (codes "br 7 (; INVALID ;)" ∷ [])
    ∷ sample (0x0c ∷ 0x00 ∷ []) (br 0 ∷ []) (codes "br 0" ∷ [])
    ∷ sample (0x02 ∷ 0x40 ∷ 0x02 ∷ 0x40 ∷ 0x0c ∷ 0x01 ∷ 0x0c ∷ 0x00 ∷ 0x0b ∷ 0x0b ∷ []) (block Empty ∷ block Empty ∷ br 1 ∷ br 0 ∷ end ∷ end ∷ [])
    (codes "block ;; label = @1" ∷ codes "  block ;; label = @2" ∷ codes "    br 1 (;@1;)" ∷ codes "    br 0 (;@2;)" ∷ codes "  end" ∷ codes "end" ∷ [])
    ∷ sample (0x02 ∷ 0x40 ∷ 0x41 ∷ 0x00 ∷ 0x0e ∷ 0x01 ∷ 0x00 ∷ 0x01 ∷ 0x0b ∷ []) (block Empty ∷ i32_const (pos 0) ∷ br_table (0 ∷ []) 1 ∷ end ∷ [])
    (codes "block ;; label = @1" ∷ codes "  i32.const 0" ∷ codes "  br_table 0 (;@1;) 1" ∷ codes "end" ∷ [])
    ∷ sample (0x0e ∷ 0x00 ∷ 0x00 ∷ []) (br_table [] 0 ∷ []) (codes "br_table 0" ∷ [])
    ∷ sample (0x03 ∷ 0x40 ∷ 0x02 ∷ 0x40 ∷ 0x0e ∷ 0x03 ∷ 0x02 ∷ 0x01 ∷ 0x03 ∷ 0x00 ∷ 0x0d ∷ 0x01 ∷ 0x0b ∷ 0x0b ∷ [])
    (loop Empty ∷ block Empty ∷ br_table (2 ∷ 1 ∷ 3 ∷ []) 0 ∷ br_if 1 ∷ end ∷ end ∷ [])
    (codes "loop ;; label = @1" ∷ codes "  block ;; label = @2" ∷ codes "    br_table 2 1 (;@1;) 3 (; INVALID ;) 0 (;@2;)" ∷ codes "    br_if 1 (;@1;)" ∷ codes "  end" ∷ codes "end" ∷ [])
    ∷ []

-- Block types: a single result, or a type with its signature. A type may have the same signature as a single
-- result.
abbrev block_types : List Sample
block_types =
    sample (0x03 ∷ 0x00 ∷ 0x0b ∷ []) (loop (OfType 0) ∷ end ∷ []) (codes "loop (type 0) (param i32) ;; label = @1" ∷ codes "end" ∷ [])
    ∷ sample (0x02 ∷ 0x7f ∷ 0x41 ∷ 0x01 ∷ 0x0b ∷ []) (block (Value types.I32) ∷ i32_const (pos 1) ∷ end ∷ [])
    (codes "block (result i32) ;; label = @1" ∷ codes "  i32.const 1" ∷ codes "end" ∷ [])
    ∷ sample (0x02 ∷ 0x01 ∷ 0x41 ∷ 0x01 ∷ 0x0b ∷ []) (block (OfType 1) ∷ i32_const (pos 1) ∷ end ∷ [])
    (codes "block (type 1) (result i32) ;; label = @1" ∷ codes "  i32.const 1" ∷ codes "end" ∷ [])
    ∷ []

-- A single result of another number type, of the vector type or of a reference type. A nullable reference has two
-- encodings and one text.
abbrev value_types : List Sample
value_types =
    sample (0x02 ∷ 0x63 ∷ 0x00 ∷ 0x0b ∷ []) (block (Value (to_null (types.Index 0))) ∷ end ∷ []) (codes "block (result (ref null 0)) ;; label = @1" ∷ codes "end" ∷ [])
    ∷ sample (0x02 ∷ 0x70 ∷ 0x0b ∷ []) (block (Value (to_null types.Func)) ∷ end ∷ []) (codes "block (result funcref) ;; label = @1" ∷ codes "end" ∷ [])
    ∷ sample (0x02 ∷ 0x63 ∷ 0x70 ∷ 0x0b ∷ []) (block (Value (to_null types.Func)) ∷ end ∷ []) (codes "block (result funcref) ;; label = @1" ∷ codes "end" ∷ [])
    ∷ sample (0x03 ∷ 0x64 ∷ 0x70 ∷ 0x0b ∷ []) (loop (Value (to types.Func)) ∷ end ∷ []) (codes "loop (result (ref func)) ;; label = @1" ∷ codes "end" ∷ [])
    ∷ sample (0x04 ∷ 0x64 ∷ 0x01 ∷ 0x05 ∷ 0x0b ∷ []) (if_op (Value (to (types.Index 1))) ∷ else_op ∷ end ∷ []) (codes "if (result (ref 1)) ;; label = @1" ∷ codes "else" ∷ codes "end" ∷ [])
    ∷ sample (0x06 ∷ 0x71 ∷ 0x18 ∷ 0x00 ∷ []) (try_op (Value (to_null types.NoAny)) ∷ delegate 0 ∷ []) (codes "try (result nullref) ;; label = @1" ∷ codes "delegate 0" ∷ [])
    ∷ sample (0x1f ∷ 0x63 ∷ 0x00 ∷ 0x01 ∷ 0x03 ∷ 0x00 ∷ 0x0b ∷ []) (try_table (Value (to_null (types.Index 0))) (AllRef 0 ∷ []) ∷ end ∷ [])
    (codes "try_table (result (ref null 0)) (catch_all_ref 0) ;; label = @1" ∷ codes "end" ∷ [])
    ∷ sample (0x02 ∷ 0x7d ∷ 0x02 ∷ 0x7c ∷ 0x02 ∷ 0x7b ∷ 0x0b ∷ 0x0b ∷ 0x0b ∷ []) (block (Value types.F32) ∷ block (Value types.F64) ∷ block (Value types.V128) ∷ end ∷ end ∷ end ∷ [])
    (codes "block (result f32) ;; label = @1" ∷ codes "  block (result f64) ;; label = @2" ∷ codes "    block (result v128) ;; label = @3" ∷ codes "    end" ∷ codes "  end" ∷ codes "end" ∷ [])
    ∷ []

-- `else`, `catch`, `catch_all`, `delegate` and `end` are indented like the operator that opens their block.
abbrev levels : List Sample
levels =
    sample (0x04 ∷ 0x40 ∷ 0x0b ∷ []) (if_op Empty ∷ end ∷ []) (codes "if ;; label = @1" ∷ codes "end" ∷ [])
    ∷ sample (0x04 ∷ 0x7e ∷ 0x01 ∷ 0x05 ∷ 0x0c ∷ 0x00 ∷ 0x0b ∷ []) (if_op (Value types.I64) ∷ nop ∷ else_op ∷ br 0 ∷ end ∷ [])
    (codes "if (result i64) ;; label = @1" ∷ codes "  nop" ∷ codes "else" ∷ codes "  br 0 (;@1;)" ∷ codes "end" ∷ [])
    ∷ sample (0x06 ∷ 0x7e ∷ 0x01 ∷ 0x07 ∷ 0x00 ∷ 0x0c ∷ 0x00 ∷ 0x07 ∷ 0x03 ∷ 0x19 ∷ 0x09 ∷ 0x00 ∷ 0x0b ∷ [])
    (try_op (Value types.I64) ∷ nop ∷ catch_op 0 ∷ br 0 ∷ catch_op 3 ∷ catch_all ∷ rethrow 0 ∷ end ∷ [])
    (codes "try (result i64) ;; label = @1" ∷ codes "  nop" ∷ codes "catch 0" ∷ codes "  br 0 (;@1;)" ∷ codes "catch 3" ∷ codes "catch_all" ∷ codes "  rethrow 0 (;@1;)" ∷ codes "end" ∷ [])
    ∷ sample (0x02 ∷ 0x40 ∷ 0x04 ∷ 0x40 ∷ 0x05 ∷ 0x06 ∷ 0x40 ∷ 0x07 ∷ 0x00 ∷ 0x02 ∷ 0x40 ∷ 0x0b ∷ 0x19 ∷ 0x01 ∷ 0x0b ∷ 0x0b ∷ 0x08 ∷ 0x02 ∷ 0x0b ∷ [])
    (block Empty ∷ if_op Empty ∷ else_op ∷ try_op Empty ∷ catch_op 0 ∷ block Empty ∷ end ∷ catch_all ∷ nop ∷ end ∷ end ∷ throw 2 ∷ end ∷ [])
    (codes "block ;; label = @1" ∷ codes "  if ;; label = @2" ∷ codes "  else" ∷ codes "    try ;; label = @3" ∷ codes "    catch 0" ∷ codes "      block ;; label = @4" ∷ codes "      end"
    ∷ codes "    catch_all" ∷ codes "      nop" ∷ codes "    end" ∷ codes "  end" ∷ codes "  throw 2" ∷ codes "end" ∷ [])
    ∷ []

-- Labels that are resolved outside the block: that of `delegate`, which ends its block, and those of catch clauses
abbrev outside : List Sample
outside =
    sample (0x06 ∷ 0x40 ∷ 0x18 ∷ 0x00 ∷ 0x02 ∷ 0x40 ∷ 0x0c ∷ 0x00 ∷ 0x0b ∷ []) (try_op Empty ∷ delegate 0 ∷ block Empty ∷ br 0 ∷ end ∷ [])
    (codes "try ;; label = @1" ∷ codes "delegate 0" ∷ codes "block ;; label = @1" ∷ codes "  br 0 (;@1;)" ∷ codes "end" ∷ [])
    ∷ sample (0x06 ∷ 0x40 ∷ 0x18 ∷ 0x00 ∷ 0x02 ∷ 0x40 ∷ 0x0c ∷ 0x00 ∷ 0x0c ∷ 0x01 ∷ 0x0b ∷ []) (try_op Empty ∷ delegate 0 ∷ block Empty ∷ br 0 ∷ br 1 ∷ end ∷ [])
    (codes "try ;; label = @1" ∷ codes "delegate 0" ∷ codes "block ;; label = @1" ∷ codes "  br 0 (;@1;)" ∷ codes "  br 1" ∷ codes "end" ∷ [])
    ∷ sample (0x02 ∷ 0x40 ∷ 0x06 ∷ 0x40 ∷ 0x01 ∷ 0x18 ∷ 0x00 ∷ 0x06 ∷ 0x40 ∷ 0x18 ∷ 0x02 ∷ 0x0b ∷ []) (block Empty ∷ try_op Empty ∷ nop ∷ delegate 0 ∷ try_op Empty ∷ delegate 2 ∷ end ∷ [])
    (codes "block ;; label = @1" ∷ codes "  try ;; label = @2" ∷ codes "    nop" ∷ codes "  delegate 0 (;@1;)" ∷ codes "  try ;; label = @2" ∷ codes "  delegate 2 (; INVALID ;)" ∷ codes "end" ∷ [])
    ∷ sample (0x1f ∷ 0x40 ∷ 0x01 ∷ 0x02 ∷ 0x00 ∷ 0x0b ∷ []) (try_table Empty (All 0 ∷ []) ∷ end ∷ []) (codes "try_table (catch_all 0) ;; label = @1" ∷ codes "end" ∷ [])
    ∷ sample (0x1f ∷ 0x40 ∷ 0x00 ∷ 0x0c ∷ 0x00 ∷ 0x0b ∷ []) (try_table Empty [] ∷ br 0 ∷ end ∷ []) (codes "try_table ;; label = @1" ∷ codes "  br 0 (;@1;)" ∷ codes "end" ∷ [])
    ∷ sample (0x02 ∷ 0x40 ∷ 0x1f ∷ 0x7f ∷ 0x04 ∷ 0x00 ∷ 0x05 ∷ 0x00 ∷ 0x01 ∷ 0x06 ∷ 0x01 ∷ 0x02 ∷ 0x02 ∷ 0x03 ∷ 0x00 ∷ 0x41 ∷ 0x00 ∷ 0x0b ∷ 0x0b ∷ [])
    (block Empty ∷ try_table (Value types.I32) (One 5 0 ∷ OneRef 6 1 ∷ All 2 ∷ AllRef 0 ∷ []) ∷ i32_const (pos 0) ∷ end ∷ end ∷ [])
    (codes "block ;; label = @1" ∷ codes "  try_table (result i32) (catch 5 0 (;@1;)) (catch_ref 6 1) (catch_all 2 (; INVALID ;)) (catch_all_ref 0 (;@1;)) ;; label = @2"
    ∷ codes "    i32.const 0" ∷ codes "  end" ∷ codes "end" ∷ [])
    ∷ []

abbrev pub all_samples : List (List Sample)
all_samples = branches ∷ block_types ∷ value_types ∷ levels ∷ outside ∷ []
