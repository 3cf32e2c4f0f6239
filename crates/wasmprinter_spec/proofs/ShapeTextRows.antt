-- Worked rows of immediates of each shape: bytes that encode no operator, other texts of the same operators, and
-- texts of no operator.
use Rattle.std.specs.Prelude.{◌≡◌, ℕ, List, [], ◌∷◌, ◌++◌, map, replicate, true, false, codes, Option, Some, refl}
use Rattle.wasmprinter_spec.specs.Types as types
use Rattle.wasmprinter_spec.specs.Types.{ref_type}
use Rattle.wasmprinter_spec.specs.Operator.{opcode, mem_arg_of, Immediates, Index, Indices, Types, Heap, Cast, Memory, MemoryLane, Bytes, Operator}
use Rattle.wasmprinter_spec.specs.Table.{table}
use Rattle.wasmprinter_spec.proofs.Computing.{reading}
use Rattle.wasmprinter_spec.proofs.ShapeRows.{ops}
use Rattle.wasmprinter_spec.proofs.FromBytes.{spelled}
use Rattle.wasmprinter_spec.proofs.Numbers.{numbers_from}

-- ---- bytes that encode no operator

-- Opcodes that the table does not list, and a number of too many bits
unlisted : numbers_from spelled 0 (
    (0x00 ∷ [])
    ∷ (0x16 ∷ [])
    ∷ (0xc5 ∷ [])
    ∷ (0xff ∷ [])
    ∷ (0xfb ∷ 0x1f ∷ [])
    ∷ (0xfc ∷ 0x12 ∷ 0x00 ∷ [])
    ∷ (0xfd ∷ 0x9a ∷ 0x01 ∷ [])
    ∷ (0xfd ∷ 0x94 ∷ 0x02 ∷ [])
    ∷ (0xfe ∷ 0x04 ∷ [])
    ∷ (0xfe ∷ 0x4f ∷ 0x00 ∷ 0x00 ∷ [])
    ∷ (0xfd ∷ 0x8e ∷ 0x80 ∷ 0x80 ∷ 0x80 ∷ 0x10 ∷ [])
    ∷ []) ≡ 0 ∷ []
unfolding table
unlisted = refl

-- The flags of a cast are below 4, and a memory operand begins with a number below 128. Another byte after a
-- fence, a byte that is no type, and truncated immediates
misspelled : numbers_from spelled 0 (
    (0xfb ∷ 0x18 ∷ 0x03 ∷ 0x00 ∷ 0x6e ∷ 0x6e ∷ [])
    ∷ (0xfb ∷ 0x18 ∷ 0x04 ∷ 0x00 ∷ 0x6e ∷ 0x6e ∷ [])
    ∷ (0xfb ∷ 0x19 ∷ 0xff ∷ 0x00 ∷ 0x6e ∷ 0x6e ∷ [])
    ∷ (0x28 ∷ 0xff ∷ 0x00 ∷ 0x00 ∷ 0x00 ∷ [])
    ∷ (0x28 ∷ 0x80 ∷ 0x01 ∷ 0x00 ∷ [])
    ∷ (0x28 ∷ 0x80 ∷ 0x01 ∷ 0x00 ∷ 0x00 ∷ [])
    ∷ (0x28 ∷ 0x02 ∷ [])
    ∷ (0x28 ∷ 0x02 ∷ 0xff ∷ 0xff ∷ 0xff ∷ 0xff ∷ 0xff ∷ 0xff ∷ 0xff ∷ 0xff ∷ 0xff ∷ 0x02 ∷ [])
    ∷ (0xfe ∷ 0x03 ∷ 0x01 ∷ [])
    ∷ (0x1c ∷ 0x01 ∷ 0x78 ∷ [])
    ∷ (0xd0 ∷ 0x7f ∷ [])
    ∷ (0xfb ∷ 0x15 ∷ 0x63 ∷ 0x70 ∷ [])
    ∷ (0x11 ∷ 0x00 ∷ [])
    ∷ (0xfd ∷ 0x0c ∷ replicate 14 0x00)
    ∷ (0xfd ∷ 0x0d ∷ replicate 14 0x00)
    ∷ []) ≡ 0 ∷ 3 ∷ []
unfolding table
misspelled = refl

-- ---- other texts

abbrev one : ℕ → ℕ → Immediates → Option (List Operator)
one p n i = Some (record { opcode = opcode p n; immediates = i } ∷ [])

-- Indices that could be omitted
written_indices : map ops (
    codes "memory.size 0"
    ∷ codes "memory.fill 0"
    ∷ codes "call_indirect 0 (type 1)"
    ∷ codes "call_indirect (type 1) (result i32)"
    ∷ codes "memory.init 0 3"
    ∷ codes "table.copy 0 0"
    ∷ [])
    ≡ one 0 0x3f (Index 0)
    ∷ one 0xfc 11 (Index 0)
    ∷ one 0 0x11 (Indices 1 0)
    ∷ one 0 0x11 (Indices 1 0)
    ∷ one 0xfc 8 (Indices 3 0)
    ∷ one 0xfc 14 (Indices 0 0)
    ∷ []
unfolding reading
written_indices = refl

-- Offsets of 0 and natural alignments, also in hexadecimal
written_operands : map ops (
    codes "i32.load 0 offset=0 align=4"
    ∷ codes "i32.load offset=0x1_0 align=0x8"
    ∷ codes "i64.load8_u align=1"
    ∷ codes "v128.load32_lane offset=1 align=4 0x3"
    ∷ codes "v128.store8_lane 1 2"
    ∷ [])
    ≡ one 0 0x28 (Memory (mem_arg_of 2 0 0))
    ∷ one 0 0x28 (Memory (mem_arg_of 3 0 16))
    ∷ one 0 0x31 (Memory (mem_arg_of 0 0 0))
    ∷ one 0xfd 86 (MemoryLane (mem_arg_of 2 0 1) 3)
    ∷ one 0xfd 88 (MemoryLane (mem_arg_of 0 1 0) 2)
    ∷ []
unfolding reading
written_operands = refl

-- Several groups of results, references in their long form, and vectors with other lanes
written_types : map ops (
    codes "select (result i32) (result) (result i64)"
    ∷ codes "ref.test (ref null func)"
    ∷ codes "br_on_cast 0 (ref null any) (ref eq)"
    ∷ codes "v128.const i64x2 -1 1"
    ∷ codes "v128.const i8x16 0 1 2 3 4 5 6 7 8 9 10 11 12 13 14 -1"
    ∷ codes "v128.const i16x8 0x201 0 0 0 0 0 0 0xffff"
    ∷ [])
    ≡ one 0 0x1c (Types (types.I32 ∷ types.I64 ∷ []))
    ∷ one 0xfb 21 (Heap types.Func)
    ∷ one 0xfb 24 (Cast 0 (ref_type true types.Any) (ref_type false types.Eq))
    ∷ one 0xfd 12 (Bytes (replicate 8 255 ++ 1 ∷ replicate 7 0))
    ∷ one 0xfd 12 (Bytes (0 ∷ 1 ∷ 2 ∷ 3 ∷ 4 ∷ 5 ∷ 6 ∷ 7 ∷ 8 ∷ 9 ∷ 10 ∷ 11 ∷ 12 ∷ 13 ∷ 14 ∷ 255 ∷ []))
    ∷ one 0xfd 12 (Bytes (1 ∷ 2 ∷ replicate 12 0 ++ 255 ∷ 255 ∷ []))
    ∷ []
unfolding reading
written_types = refl

-- ---- texts of no operator

-- In each list, the first text reads. An alignment is a power of two of at most 64 bits and comes after the
-- offset.
unread_operands : numbers_from ops 0 (
    codes "i32.load 1 offset=18446744073709551615 align=1"
    ∷ codes "i32.load align=3"
    ∷ codes "i32.load align=0"
    ∷ codes "i32.load align=18446744073709551616"
    ∷ codes "i32.load align="
    ∷ codes "i32.load offset=18446744073709551616"
    ∷ codes "i32.load offset=-1"
    ∷ codes "i32.load offset=+1"
    ∷ codes "i32.load offset="
    ∷ codes "i32.load offset= 4"
    ∷ codes "i32.load align=4 offset=4"
    ∷ codes "i32.load align=4 align=4"
    ∷ codes "i32.load offset=4 1"
    ∷ codes "i32.load 0 0"
    ∷ codes "i32.load $m"
    ∷ codes "i32.load (offset=4)"
    ∷ []) ≡ 0 ∷ []
unfolding reading
unread_operands = refl

unread_lanes : numbers_from ops 0 (
    codes "i8x16.extract_lane_s 255"
    ∷ codes "i8x16.extract_lane_s 256"
    ∷ codes "i8x16.extract_lane_s -1"
    ∷ codes "i8x16.extract_lane_s"
    ∷ codes "i8x16.extract_lane_s 0 0"
    ∷ codes "v128.load8_lane"
    ∷ codes "v128.load8_lane 256"
    ∷ codes "v128.load8_lane 0 offset=4"
    ∷ codes "i8x16.shuffle 0 1 2 3 4 5 6 7 8 9 10 11 12 13 14"
    ∷ codes "i8x16.shuffle 0 1 2 3 4 5 6 7 8 9 10 11 12 13 14 15 16"
    ∷ codes "i8x16.shuffle 0 1 2 3 4 5 6 7 8 9 10 11 12 13 14 256"
    ∷ codes "v128.const 0 0 0 0"
    ∷ codes "v128.const i32x4 0 0 0"
    ∷ codes "v128.const i32x4 0 0 0 0 0"
    ∷ codes "v128.const i32x4 0 0 0 4294967296"
    ∷ codes "v128.const i8x16 0 1 2 3 4 5 6 7 8 9 10 11 12 13 14 256"
    ∷ codes "v128.const i64 0 0"
    ∷ []) ≡ 0 ∷ []
unfolding reading
unread_lanes = refl

unread_types : numbers_from ops 0 (
    codes "ref.test funcref ref.cast (ref func) ref.null func"
    ∷ codes "ref.test"
    ∷ codes "ref.test func"
    ∷ codes "ref.cast i32"
    ∷ codes "ref.cast (ref func) (ref func)"
    ∷ codes "ref.null"
    ∷ codes "ref.null funcref"
    ∷ codes "ref.null (ref func)"
    ∷ codes "select i32"
    ∷ codes "select (result i8)"
    ∷ codes "select (result i32) i32"
    ∷ codes "select (param i32)"
    ∷ codes "br_on_cast anyref i31ref"
    ∷ codes "br_on_cast 0 anyref"
    ∷ codes "br_on_cast 0 anyref i31ref i31ref"
    ∷ codes "br_on_cast 0 any i31"
    ∷ []) ≡ 0 ∷ []
unfolding reading
unread_types = refl

unread_indices : numbers_from ops 0 (
    codes "call_indirect 1 (type 0) table.copy 1 0 memory.init 1 0"
    ∷ codes "call_indirect"
    ∷ codes "call_indirect 1"
    ∷ codes "call_indirect (type 9)"
    ∷ codes "call_indirect (type 0) 1"
    ∷ codes "call_indirect 0 1 (type 0)"
    ∷ codes "call_indirect (type 0) (result i32)"
    ∷ codes "table.copy 1"
    ∷ codes "table.copy 0 1 2"
    ∷ codes "memory.init"
    ∷ codes "memory.init 0 1 2"
    ∷ codes "memory.size 0 0"
    ∷ codes "memory.size 4294967296"
    ∷ codes "table.get"
    ∷ codes "struct.get 0"
    ∷ codes "struct.get 0 1 2"
    ∷ codes "array.new_fixed 0"
    ∷ codes "array.new_data 0"
    ∷ codes "array.copy 0 1 2"
    ∷ codes "atomic.fence 0"
    ∷ codes "i32.add 0"
    ∷ codes "i32.pop"
    ∷ []) ≡ 0 ∷ []
unfolding reading
unread_indices = refl
