-- Operators with immediates of each shape, typed by hand, which the worked rows share: their bytes, the operators
-- that these encode, and their texts.
use Rattle.std.specs.Prelude.{ℕ, List, [], ◌∷◌, ◌++◌, true, false, codes, replicate}
use Rattle.wasmprinter_spec.specs.Types as types
use Rattle.wasmprinter_spec.specs.Types.{ref_type}
use Rattle.wasmprinter_spec.specs.Operator.{opcode, mem_arg_of, Immediates, NoImmediates, Index, Indices, Types, Heap, Cast, Memory, MemoryLane, Lane, F32, F64, Bytes, Operator}
use Rattle.wasmprinter_spec.proofs.Samples.{to_null}

pub record Sample : Type 0 where
  pub bytes : List ℕ
  pub operator : Operator
  pub text : List ℕ

-- An operator with this prefix and number
abbrev sample : List ℕ → ℕ → ℕ → Immediates → List ℕ → Sample
sample bs p n i t = record { bytes = bs; operator = record { opcode = opcode p n; immediates = i }; text = t }

-- The encoding of a number after a prefix may be longer than needed. From 128 on it has at least two bytes.
abbrev no_immediates : List Sample
no_immediates =
    sample (0x00 ∷ []) 0 0 NoImmediates (codes "unreachable")
    ∷ sample (0xd4 ∷ []) 0 0xd4 NoImmediates (codes "ref.as_non_null")
    ∷ sample (0xfb ∷ 0x0f ∷ []) 0xfb 15 NoImmediates (codes "array.len")
    ∷ sample (0xfc ∷ 0x00 ∷ []) 0xfc 0 NoImmediates (codes "i32.trunc_sat_f32_s")
    ∷ sample (0xfc ∷ 0x13 ∷ []) 0xfc 19 NoImmediates (codes "i64.add128")
    ∷ sample (0xfd ∷ 0x0e ∷ []) 0xfd 14 NoImmediates (codes "i8x16.swizzle")
    ∷ sample (0xfd ∷ 0x8e ∷ 0x80 ∷ 0x00 ∷ []) 0xfd 14 NoImmediates (codes "i8x16.swizzle")
    ∷ sample (0xfd ∷ 0xff ∷ 0x01 ∷ []) 0xfd 255 NoImmediates (codes "f64x2.convert_low_i32x4_u")
    ∷ sample (0xfd ∷ 0x80 ∷ 0x02 ∷ []) 0xfd 256 NoImmediates (codes "i8x16.relaxed_swizzle")
    ∷ sample (0xfe ∷ 0x03 ∷ 0x00 ∷ []) 0xfe 3 NoImmediates (codes "atomic.fence")
    ∷ []

-- An index. The text does not say which index space it belongs to.
abbrev indices : List Sample
indices =
    sample (0x10 ∷ 0x00 ∷ []) 0 0x10 (Index 0) (codes "call 0")
    ∷ sample (0x15 ∷ 0x01 ∷ []) 0 0x15 (Index 1) (codes "return_call_ref 1")
    ∷ sample (0x24 ∷ 0x05 ∷ []) 0 0x24 (Index 5) (codes "global.set 5")
    ∷ sample (0x25 ∷ 0x00 ∷ []) 0 0x25 (Index 0) (codes "table.get 0")
    ∷ sample (0xd2 ∷ 0xff ∷ 0xff ∷ 0xff ∷ 0xff ∷ 0x0f ∷ []) 0 0xd2 (Index 4294967295) (codes "ref.func 4294967295")
    ∷ sample (0xd6 ∷ 0x00 ∷ []) 0 0xd6 (Index 0) (codes "br_on_non_null 0")
    ∷ sample (0xfb ∷ 0x01 ∷ 0x02 ∷ []) 0xfb 1 (Index 2) (codes "struct.new_default 2")
    ∷ sample (0xfc ∷ 0x09 ∷ 0x81 ∷ 0x01 ∷ []) 0xfc 9 (Index 129) (codes "data.drop 129")
    ∷ sample (0xfc ∷ 0x10 ∷ 0x00 ∷ []) 0xfc 16 (Index 0) (codes "table.size 0")
    ∷ []

-- The index of a memory, which is omitted if it is 0
abbrev default_indices : List Sample
default_indices =
    sample (0x3f ∷ 0x00 ∷ []) 0 0x3f (Index 0) (codes "memory.size")
    ∷ sample (0x3f ∷ 0x02 ∷ []) 0 0x3f (Index 2) (codes "memory.size 2")
    ∷ sample (0x40 ∷ 0x81 ∷ 0x00 ∷ []) 0 0x40 (Index 1) (codes "memory.grow 1")
    ∷ sample (0xfc ∷ 0x0b ∷ 0x00 ∷ []) 0xfc 11 (Index 0) (codes "memory.fill")
    ∷ sample (0xfc ∷ 0x0b ∷ 0x01 ∷ []) 0xfc 11 (Index 1) (codes "memory.fill 1")
    ∷ []

-- Two indices, a type with a field, and a type with a number
abbrev pairs : List Sample
pairs =
    sample (0xfb ∷ 0x09 ∷ 0x01 ∷ 0x02 ∷ []) 0xfb 9 (Indices 1 2) (codes "array.new_data 1 2")
    ∷ sample (0xfb ∷ 0x0a ∷ 0x00 ∷ 0x00 ∷ []) 0xfb 10 (Indices 0 0) (codes "array.new_elem 0 0")
    ∷ sample (0xfb ∷ 0x11 ∷ 0x03 ∷ 0x00 ∷ []) 0xfb 17 (Indices 3 0) (codes "array.copy 3 0")
    ∷ sample (0xfb ∷ 0x13 ∷ 0x04 ∷ 0x05 ∷ []) 0xfb 19 (Indices 4 5) (codes "array.init_elem 4 5")
    ∷ sample (0xfb ∷ 0x04 ∷ 0x01 ∷ 0x00 ∷ []) 0xfb 4 (Indices 1 0) (codes "struct.get_u 1 0")
    ∷ sample (0xfb ∷ 0x05 ∷ 0x00 ∷ 0x07 ∷ []) 0xfb 5 (Indices 0 7) (codes "struct.set 0 7")
    ∷ sample (0xfb ∷ 0x08 ∷ 0x01 ∷ 0x00 ∷ []) 0xfb 8 (Indices 1 0) (codes "array.new_fixed 1 0")
    ∷ sample (0xfb ∷ 0x08 ∷ 0x00 ∷ 0xff ∷ 0xff ∷ 0xff ∷ 0xff ∷ 0x0f ∷ []) 0xfb 8 (Indices 0 4294967295) (codes "array.new_fixed 0 4294967295")
    ∷ []

-- A type and a table. The table comes first and is omitted if it is 0.
abbrev calls : List Sample
calls =
    sample (0x11 ∷ 0x00 ∷ 0x01 ∷ []) 0 0x11 (Indices 0 1) (codes "call_indirect 1 (type 0)")
    ∷ sample (0x11 ∷ 0x00 ∷ 0x00 ∷ []) 0 0x11 (Indices 0 0) (codes "call_indirect (type 0)")
    ∷ sample (0x13 ∷ 0x01 ∷ 0x02 ∷ []) 0 0x13 (Indices 1 2) (codes "return_call_indirect 2 (type 1)")
    ∷ []

-- A segment, and a memory or table. The memory or table comes first and is omitted if it is 0.
abbrev segments : List Sample
segments =
    sample (0xfc ∷ 0x08 ∷ 0x00 ∷ 0x00 ∷ []) 0xfc 8 (Indices 0 0) (codes "memory.init 0")
    ∷ sample (0xfc ∷ 0x08 ∷ 0x05 ∷ 0x00 ∷ []) 0xfc 8 (Indices 5 0) (codes "memory.init 5")
    ∷ sample (0xfc ∷ 0x08 ∷ 0x05 ∷ 0x02 ∷ []) 0xfc 8 (Indices 5 2) (codes "memory.init 2 5")
    ∷ sample (0xfc ∷ 0x0c ∷ 0x03 ∷ 0x00 ∷ []) 0xfc 12 (Indices 3 0) (codes "table.init 3")
    ∷ sample (0xfc ∷ 0x0c ∷ 0x00 ∷ 0x01 ∷ []) 0xfc 12 (Indices 0 1) (codes "table.init 1 0")
    ∷ []

-- The memory or table that is written, and the one that is read. Both are printed if one of them is not 0.
abbrev copies : List Sample
copies =
    sample (0xfc ∷ 0x0e ∷ 0x00 ∷ 0x00 ∷ []) 0xfc 14 (Indices 0 0) (codes "table.copy")
    ∷ sample (0xfc ∷ 0x0e ∷ 0x00 ∷ 0x01 ∷ []) 0xfc 14 (Indices 0 1) (codes "table.copy 0 1")
    ∷ sample (0xfc ∷ 0x0e ∷ 0x01 ∷ 0x00 ∷ []) 0xfc 14 (Indices 1 0) (codes "table.copy 1 0")
    ∷ sample (0xfc ∷ 0x0a ∷ 0x00 ∷ 0x00 ∷ []) 0xfc 10 (Indices 0 0) (codes "memory.copy")
    ∷ sample (0xfc ∷ 0x0a ∷ 0x02 ∷ 0x03 ∷ []) 0xfc 10 (Indices 2 3) (codes "memory.copy 2 3")
    ∷ []

-- A `select` without types, and some with a list of types
abbrev selections : List Sample
selections =
    sample (0x1b ∷ []) 0 0x1b NoImmediates (codes "select")
    ∷ sample (0x1c ∷ 0x00 ∷ []) 0 0x1c (Types []) (codes "select (result)")
    ∷ sample (0x1c ∷ 0x01 ∷ 0x7f ∷ []) 0 0x1c (Types (types.I32 ∷ [])) (codes "select (result i32)")
    ∷ sample (0x1c ∷ 0x01 ∷ 0x63 ∷ 0x00 ∷ []) 0 0x1c (Types (to_null (types.Index 0) ∷ [])) (codes "select (result (ref null 0))")
    ∷ sample (0x1c ∷ 0x02 ∷ 0x7f ∷ 0x70 ∷ []) 0 0x1c (Types (types.I32 ∷ to_null types.Func ∷ [])) (codes "select (result i32 funcref)")
    ∷ []

-- Heap types, reference types, and a label with two reference types. The opcode or the flags say whether a
-- reference type is nullable.
abbrev references : List Sample
references =
    sample (0xd0 ∷ 0x70 ∷ []) 0 0xd0 (Heap types.Func) (codes "ref.null func")
    ∷ sample (0xd0 ∷ 0x71 ∷ []) 0 0xd0 (Heap types.NoAny) (codes "ref.null none")
    ∷ sample (0xd0 ∷ 0x01 ∷ []) 0 0xd0 (Heap (types.Index 1)) (codes "ref.null 1")
    ∷ sample (0xfb ∷ 0x14 ∷ 0x70 ∷ []) 0xfb 20 (Heap types.Func) (codes "ref.test (ref func)")
    ∷ sample (0xfb ∷ 0x15 ∷ 0x70 ∷ []) 0xfb 21 (Heap types.Func) (codes "ref.test funcref")
    ∷ sample (0xfb ∷ 0x16 ∷ 0x00 ∷ []) 0xfb 22 (Heap (types.Index 0)) (codes "ref.cast (ref 0)")
    ∷ sample (0xfb ∷ 0x17 ∷ 0x00 ∷ []) 0xfb 23 (Heap (types.Index 0)) (codes "ref.cast (ref null 0)")
    ∷ []

abbrev casts : List Sample
casts =
    sample (0xfb ∷ 0x18 ∷ 0x00 ∷ 0x00 ∷ 0x6e ∷ 0x6c ∷ []) 0xfb 24 (Cast 0 (ref_type false types.Any) (ref_type false types.I31))
    (codes "br_on_cast 0 (ref any) (ref i31)")
    ∷ sample (0xfb ∷ 0x18 ∷ 0x01 ∷ 0x00 ∷ 0x6e ∷ 0x6c ∷ []) 0xfb 24 (Cast 0 (ref_type true types.Any) (ref_type false types.I31))
    (codes "br_on_cast 0 anyref (ref i31)")
    ∷ sample (0xfb ∷ 0x19 ∷ 0x02 ∷ 0x00 ∷ 0x6e ∷ 0x6c ∷ []) 0xfb 25 (Cast 0 (ref_type false types.Any) (ref_type true types.I31))
    (codes "br_on_cast_fail 0 (ref any) i31ref")
    ∷ sample (0xfb ∷ 0x19 ∷ 0x03 ∷ 0x00 ∷ 0x01 ∷ 0x00 ∷ []) 0xfb 25 (Cast 0 (ref_type true (types.Index 1)) (ref_type true (types.Index 0)))
    (codes "br_on_cast_fail 0 (ref null 1) (ref null 0)")
    ∷ []

-- Memory operands. An exponent below 64 implies memory 0; from 64 on, the index of a memory follows, which may be
-- 0 too. The natural alignment, memory 0 and an offset of 0 are omitted.
abbrev memory_operands : List Sample
memory_operands =
    sample (0x28 ∷ 0x02 ∷ 0x00 ∷ []) 0 0x28 (Memory (mem_arg_of 2 0 0)) (codes "i32.load")
    ∷ sample (0x28 ∷ 0x41 ∷ 0x01 ∷ 0x04 ∷ []) 0 0x28 (Memory (mem_arg_of 1 1 4)) (codes "i32.load 1 offset=4 align=2")
    ∷ sample (0x28 ∷ 0x00 ∷ 0x00 ∷ []) 0 0x28 (Memory (mem_arg_of 0 0 0)) (codes "i32.load align=1")
    ∷ sample (0x28 ∷ 0x3f ∷ 0x00 ∷ []) 0 0x28 (Memory (mem_arg_of 63 0 0)) (codes "i32.load align=9223372036854775808")
    ∷ sample (0x28 ∷ 0x40 ∷ 0x03 ∷ 0x00 ∷ []) 0 0x28 (Memory (mem_arg_of 0 3 0)) (codes "i32.load 3 align=1")
    ∷ sample (0x28 ∷ 0x42 ∷ 0x00 ∷ 0x05 ∷ []) 0 0x28 (Memory (mem_arg_of 2 0 5)) (codes "i32.load offset=5")
    ∷ sample (0x28 ∷ 0xff ∷ 0x00 ∷ 0x02 ∷ 0x00 ∷ []) 0 0x28 (Memory (mem_arg_of 63 2 0)) (codes "i32.load 2 align=9223372036854775808")
    ∷ sample (0x3e ∷ 0x02 ∷ 0xff ∷ 0xff ∷ 0xff ∷ 0xff ∷ 0xff ∷ 0xff ∷ 0xff ∷ 0xff ∷ 0xff ∷ 0x01 ∷ []) 0 0x3e (Memory (mem_arg_of 2 0 18446744073709551615))
    (codes "i64.store32 offset=18446744073709551615")
    ∷ sample (0xfd ∷ 0x00 ∷ 0x04 ∷ 0x00 ∷ []) 0xfd 0 (Memory (mem_arg_of 4 0 0)) (codes "v128.load")
    ∷ sample (0xfd ∷ 0x01 ∷ 0x04 ∷ 0x00 ∷ []) 0xfd 1 (Memory (mem_arg_of 4 0 0)) (codes "v128.load8x8_s align=16")
    ∷ sample (0xfe ∷ 0x4e ∷ 0x02 ∷ 0x08 ∷ []) 0xfe 0x4e (Memory (mem_arg_of 2 0 8)) (codes "i64.atomic.rmw32.cmpxchg_u offset=8")
    ∷ []

-- Lanes, alone and after memory operands
abbrev lanes : List Sample
lanes =
    sample (0xfd ∷ 0x15 ∷ 0x00 ∷ []) 0xfd 21 (Lane 0) (codes "i8x16.extract_lane_s 0")
    ∷ sample (0xfd ∷ 0x22 ∷ 0xff ∷ []) 0xfd 34 (Lane 255) (codes "f64x2.replace_lane 255")
    ∷ sample (0xfd ∷ 0x54 ∷ 0x00 ∷ 0x00 ∷ 0x0f ∷ []) 0xfd 84 (MemoryLane (mem_arg_of 0 0 0) 15) (codes "v128.load8_lane 15")
    ∷ sample (0xfd ∷ 0x57 ∷ 0x43 ∷ 0x01 ∷ 0x08 ∷ 0x02 ∷ []) 0xfd 87 (MemoryLane (mem_arg_of 3 1 8) 2) (codes "v128.load64_lane 1 offset=8 2")
    ∷ sample (0xfd ∷ 0x5b ∷ 0x00 ∷ 0x00 ∷ 0xff ∷ []) 0xfd 91 (MemoryLane (mem_arg_of 0 0 0) 255) (codes "v128.store64_lane align=1 255")
    ∷ []

-- The bytes 00 to 0F
abbrev rising : List ℕ
rising = 0 ∷ 1 ∷ 2 ∷ 3 ∷ 4 ∷ 5 ∷ 6 ∷ 7 ∷ 8 ∷ 9 ∷ 10 ∷ 11 ∷ 12 ∷ 13 ∷ 14 ∷ 15 ∷ []

-- Floats, vectors as four numbers with the lowest byte first, and sixteen lanes
abbrev constants : List Sample
constants =
    sample (0x43 ∷ 0x00 ∷ 0x00 ∷ 0xc0 ∷ 0x3f ∷ []) 0 0x43 (F32 0x3fc00000) (codes "f32.const 0x1.8p+0")
    ∷ sample (0x43 ∷ 0x01 ∷ 0x00 ∷ 0x80 ∷ 0x7f ∷ []) 0 0x43 (F32 0x7f800001) (codes "f32.const nan:0x1 (;=NaN;)")
    ∷ sample (0x44 ∷ 0x00 ∷ 0x00 ∷ 0x00 ∷ 0x00 ∷ 0x00 ∷ 0x00 ∷ 0x00 ∷ 0x80 ∷ []) 0 0x44 (F64 0x8000000000000000) (codes "f64.const -0x0p+0")
    ∷ sample (0xfd ∷ 0x0c ∷ rising) 0xfd 12 (Bytes rising) (codes "v128.const i32x4 0x03020100 0x07060504 0x0b0a0908 0x0f0e0d0c")
    ∷ sample (0xfd ∷ 0x0c ∷ replicate 12 0 ++ (0x01 ∷ 0x00 ∷ 0x00 ∷ 0x80 ∷ [])) 0xfd 12 (Bytes (replicate 12 0 ++ (0x01 ∷ 0x00 ∷ 0x00 ∷ 0x80 ∷ [])))
    (codes "v128.const i32x4 0x00000000 0x00000000 0x00000000 0x80000001")
    ∷ sample (0xfd ∷ 0x0d ∷ rising) 0xfd 13 (Bytes rising) (codes "i8x16.shuffle 0 1 2 3 4 5 6 7 8 9 10 11 12 13 14 15")
    ∷ sample (0xfd ∷ 0x0d ∷ replicate 16 0xff) 0xfd 13 (Bytes (replicate 16 0xff))
    (codes "i8x16.shuffle 255 255 255 255 255 255 255 255 255 255 255 255 255 255 255 255")
    ∷ []

abbrev pub all_samples : List (List Sample)
all_samples =
    no_immediates ∷ indices ∷ default_indices ∷ pairs ∷ calls ∷ segments ∷ copies ∷ selections ∷ references ∷ casts ∷ memory_operands ∷ lanes ∷ constants ∷ []
