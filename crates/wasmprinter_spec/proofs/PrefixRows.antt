-- Worked rows of the table of operators (section 5.4 of the standard): calls, variables, references, aggregates
-- and whole ranges, by opcode.
use Rattle.std.specs.Prelude.{◌≡◌, ℕ, List, [], ◌∷◌, ◌++◌, replicate, true, false, map, codes, Option, Some, option_map, refl}
use Rattle.wasmprinter_spec.specs.Operator.{Opcode, opcode}
use Rattle.wasmprinter_spec.specs.Row.{Types, Func, Table, Memory, Global, Local, Label, Elem, Data, Shape, NoneShape, IndexShape, DefaultIndexShape, PairShape, FieldShape, CountShape, CallShape, SegmentShape, CopyShape, SelectShape, HeapShape, RefShape, CastShape, F32Shape, F64Shape, VectorShape, LanesShape, FenceShape, Arity, Fixed, OfReturnCall, OfIndirectCall, OfReturnIndirectCall, OfBranchOnNull, OfBranchOnNonNull, OfBranchOnCast, OfStruct, OfCount}
use Rattle.wasmprinter_spec.specs.Table.{table, by_opcode, word_of, shape_of}

-- The opcodes with this prefix and these numbers
abbrev opcodes : ℕ → List ℕ → List Opcode
opcodes p ns = map (opcode p) ns

abbrev words : List Opcode → List (List ℕ)
words os = map word_of os

abbrev shapes : List Opcode → List (Option Shape)
shapes os = map shape_of os

abbrev arities : List Opcode → List (Option Arity)
arities os = map (λ o. option_map (λ r. r.arity) (by_opcode o)) os

abbrev each : {A : Type 0} → List A → List (Option A)
each xs = map Some xs

-- ---- one-byte opcodes

abbrev calls : List Opcode
calls = opcodes 0 (0x11 ∷ 0x12 ∷ 0x13 ∷ 0x14 ∷ 0x15 ∷ [])

call_words : words calls ≡ codes "call_indirect" ∷ codes "return_call" ∷ codes "return_call_indirect" ∷ codes "call_ref" ∷ codes "return_call_ref" ∷ []
unfolding table
call_words = refl

call_shapes : shapes calls ≡ each (CallShape ∷ IndexShape Func ∷ CallShape ∷ IndexShape Types ∷ IndexShape Types ∷ [])
unfolding table
call_shapes = refl

call_arities : arities calls ≡ each (OfIndirectCall ∷ OfReturnCall ∷ OfReturnIndirectCall ∷ OfIndirectCall ∷ OfReturnIndirectCall ∷ [])
unfolding table
call_arities = refl

abbrev variables : List Opcode
variables = opcodes 0 (0x1b ∷ 0x1c ∷ 0x22 ∷ 0x23 ∷ 0x24 ∷ 0x25 ∷ 0x26 ∷ 0x3f ∷ 0x40 ∷ 0x43 ∷ 0x44 ∷ [])

variable_words : words variables
    ≡ codes "select" ∷ codes "select" ∷ codes "local.tee" ∷ codes "global.get" ∷ codes "global.set" ∷ codes "table.get" ∷ codes "table.set"
    ∷ codes "memory.size" ∷ codes "memory.grow" ∷ codes "f32.const" ∷ codes "f64.const" ∷ []
unfolding table
variable_words = refl

variable_shapes : shapes variables
    ≡ each (
    NoneShape ∷ SelectShape ∷ IndexShape Local ∷ IndexShape Global ∷ IndexShape Global ∷ IndexShape Table ∷ IndexShape Table
    ∷ DefaultIndexShape Memory ∷ DefaultIndexShape Memory ∷ F32Shape ∷ F64Shape ∷ [])
unfolding table
variable_shapes = refl

variable_arities : arities variables
    ≡ each (Fixed 3 1 ∷ Fixed 3 1 ∷ Fixed 1 1 ∷ Fixed 0 1 ∷ Fixed 1 0 ∷ Fixed 1 1 ∷ Fixed 2 0 ∷ Fixed 0 1 ∷ Fixed 1 1 ∷ Fixed 0 1 ∷ Fixed 0 1 ∷ [])
unfolding table
variable_arities = refl

abbrev references : List Opcode
references = opcodes 0 (0xd0 ∷ 0xd1 ∷ 0xd2 ∷ 0xd3 ∷ 0xd4 ∷ 0xd5 ∷ 0xd6 ∷ [])

reference_words : words references
    ≡ codes "ref.null" ∷ codes "ref.is_null" ∷ codes "ref.func" ∷ codes "ref.eq" ∷ codes "ref.as_non_null" ∷ codes "br_on_null" ∷ codes "br_on_non_null" ∷ []
unfolding table
reference_words = refl

reference_shapes : shapes references ≡ each (HeapShape ∷ NoneShape ∷ IndexShape Func ∷ NoneShape ∷ NoneShape ∷ IndexShape Label ∷ IndexShape Label ∷ [])
unfolding table
reference_shapes = refl

reference_arities : arities references ≡ each (Fixed 0 1 ∷ Fixed 1 1 ∷ Fixed 0 1 ∷ Fixed 2 1 ∷ Fixed 1 1 ∷ OfBranchOnNull ∷ OfBranchOnNonNull ∷ [])
unfolding table
reference_arities = refl

-- ---- structures, arrays, casts

abbrev structures : List Opcode
structures = opcodes 0xfb (0 ∷ 1 ∷ 2 ∷ 3 ∷ 4 ∷ 5 ∷ [])

structure_words : words structures
    ≡ codes "struct.new" ∷ codes "struct.new_default" ∷ codes "struct.get" ∷ codes "struct.get_s" ∷ codes "struct.get_u" ∷ codes "struct.set" ∷ []
unfolding table
structure_words = refl

structure_shapes : shapes structures ≡ each (IndexShape Types ∷ IndexShape Types ∷ replicate 4 FieldShape)
unfolding table
structure_shapes = refl

structure_arities : arities structures ≡ each (OfStruct ∷ Fixed 0 1 ∷ Fixed 1 1 ∷ Fixed 1 1 ∷ Fixed 1 1 ∷ Fixed 2 0 ∷ [])
unfolding table
structure_arities = refl

abbrev arrays : List Opcode
arrays = opcodes 0xfb (6 ∷ 7 ∷ 8 ∷ 9 ∷ 10 ∷ 11 ∷ 12 ∷ 13 ∷ 14 ∷ 15 ∷ 16 ∷ 17 ∷ 18 ∷ 19 ∷ [])

array_words : words arrays
    ≡ codes "array.new" ∷ codes "array.new_default" ∷ codes "array.new_fixed" ∷ codes "array.new_data" ∷ codes "array.new_elem"
    ∷ codes "array.get" ∷ codes "array.get_s" ∷ codes "array.get_u" ∷ codes "array.set" ∷ codes "array.len" ∷ codes "array.fill" ∷ codes "array.copy"
    ∷ codes "array.init_data" ∷ codes "array.init_elem" ∷ []
unfolding table
array_words = refl

array_shapes : shapes arrays
    ≡ each (
    IndexShape Types ∷ IndexShape Types ∷ CountShape ∷ PairShape Types Data ∷ PairShape Types Elem
    ∷ IndexShape Types ∷ IndexShape Types ∷ IndexShape Types ∷ IndexShape Types ∷ NoneShape ∷ IndexShape Types ∷ PairShape Types Types
    ∷ PairShape Types Data ∷ PairShape Types Elem ∷ [])
unfolding table
array_shapes = refl

array_arities : arities arrays
    ≡ each (
    Fixed 2 1 ∷ Fixed 1 1 ∷ OfCount ∷ Fixed 2 1 ∷ Fixed 2 1 ∷ Fixed 2 1 ∷ Fixed 2 1 ∷ Fixed 2 1 ∷ Fixed 3 0 ∷ Fixed 1 1 ∷ Fixed 4 0 ∷ Fixed 5 0
    ∷ Fixed 4 0 ∷ Fixed 4 0 ∷ [])
unfolding table
array_arities = refl

abbrev casts : List Opcode
casts = opcodes 0xfb (20 ∷ 21 ∷ 22 ∷ 23 ∷ 24 ∷ 25 ∷ 26 ∷ 27 ∷ 28 ∷ 29 ∷ 30 ∷ [])

cast_words : words casts
    ≡ codes "ref.test" ∷ codes "ref.test" ∷ codes "ref.cast" ∷ codes "ref.cast" ∷ codes "br_on_cast" ∷ codes "br_on_cast_fail"
    ∷ codes "any.convert_extern" ∷ codes "extern.convert_any" ∷ codes "ref.i31" ∷ codes "i31.get_s" ∷ codes "i31.get_u" ∷ []
unfolding table
cast_words = refl

-- Of two opcodes with one word, the second has a nullable type.
cast_shapes : shapes casts ≡ each (RefShape false ∷ RefShape true ∷ RefShape false ∷ RefShape true ∷ CastShape ∷ CastShape ∷ replicate 5 NoneShape)
unfolding table
cast_shapes = refl

cast_arities : arities casts ≡ each (replicate 4 (Fixed 1 1) ++ OfBranchOnCast ∷ OfBranchOnCast ∷ replicate 5 (Fixed 1 1))
unfolding table
cast_arities = refl

-- ---- whole ranges of opcodes

abbrev regions : List Opcode
regions = opcodes 0xfc (8 ∷ 9 ∷ 10 ∷ 11 ∷ 12 ∷ 13 ∷ 14 ∷ 15 ∷ 16 ∷ 17 ∷ [])

region_words : words regions
    ≡ codes "memory.init" ∷ codes "data.drop" ∷ codes "memory.copy" ∷ codes "memory.fill" ∷ codes "table.init" ∷ codes "elem.drop" ∷ codes "table.copy"
    ∷ codes "table.grow" ∷ codes "table.size" ∷ codes "table.fill" ∷ []
unfolding table
region_words = refl

region_shapes : shapes regions
    ≡ each (
    SegmentShape Data Memory ∷ IndexShape Data ∷ CopyShape Memory ∷ DefaultIndexShape Memory ∷ SegmentShape Elem Table ∷ IndexShape Elem ∷ CopyShape Table
    ∷ IndexShape Table ∷ IndexShape Table ∷ IndexShape Table ∷ [])
unfolding table
region_shapes = refl

region_arities : arities regions
    ≡ each (Fixed 3 0 ∷ Fixed 0 0 ∷ Fixed 3 0 ∷ Fixed 3 0 ∷ Fixed 3 0 ∷ Fixed 0 0 ∷ Fixed 3 0 ∷ Fixed 2 1 ∷ Fixed 0 1 ∷ Fixed 3 0 ∷ [])
unfolding table
region_arities = refl

-- ---- vectors, and the fence

abbrev others : List Opcode
others = opcode 0xfd 12 ∷ opcode 0xfd 13 ∷ opcode 0xfe 3 ∷ []

other_words : words others ≡ codes "v128.const" ∷ codes "i8x16.shuffle" ∷ codes "atomic.fence" ∷ []
unfolding table
other_words = refl

other_shapes : shapes others ≡ each (VectorShape ∷ LanesShape ∷ FenceShape ∷ [])
unfolding table
other_shapes = refl

other_arities : arities others ≡ each (Fixed 0 1 ∷ Fixed 2 1 ∷ Fixed 0 0 ∷ [])
unfolding table
other_arities = refl

-- ---- opcodes that are not listed

unlisted : words (
    opcodes 0 (0x16 ∷ 0x17 ∷ 0x1d ∷ 0x1e ∷ 0x27 ∷ 0xc5 ∷ 0xcf ∷ 0xd7 ∷ 0xfa ∷ 0xff ∷ [])
    ++ opcodes 0xfb (31 ∷ [])
    ++ opcodes 0xfc (18 ∷ 23 ∷ []) ++ opcodes 0xfd (154 ∷ 276 ∷ []) ++ opcodes 0xfe (0x04 ∷ 0x0f ∷ 0x4f ∷ []) ++ opcodes 0xff (0 ∷ []))
    ≡ replicate 19 []
unfolding table
unlisted = refl
