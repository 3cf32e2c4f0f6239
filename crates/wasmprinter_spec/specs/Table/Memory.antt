-- Operators on memories, with opcodes of one byte (section 5.4 of the standard, "Memory Instructions"). The
-- exponents are those of the natural alignment.
use Prim.Native.String.{String}
use Rattle.std.specs.Prelude.{ℕ, List, [], ◌∷◌}
use Rattle.wasmprinter_spec.specs.Row.{Row, Memory, DefaultIndexShape, MemoryShape, Fixed}
use Rattle.wasmprinter_spec.specs.Table.Rows.{plain}

-- Takes an address, gives the value at that address. The arguments here and below are the opcode, the word and the
-- natural exponent.
abbrev load : ℕ → String → ℕ → Row
load n w natural = plain n w (MemoryShape natural) (Fixed 1 1)

-- Takes an address and a value.
abbrev store : ℕ → String → ℕ → Row
store n w natural = plain n w (MemoryShape natural) (Fixed 2 0)

-- The loads, the stores, and the operators on the size of a memory.
unfoldable pub memory_rows : List Row
memory_rows =
    load 0x28 "i32.load" 2 ∷
    load 0x29 "i64.load" 3 ∷
    load 0x2a "f32.load" 2 ∷
    load 0x2b "f64.load" 3 ∷
    load 0x2c "i32.load8_s" 0 ∷
    load 0x2d "i32.load8_u" 0 ∷
    load 0x2e "i32.load16_s" 1 ∷
    load 0x2f "i32.load16_u" 1 ∷
    load 0x30 "i64.load8_s" 0 ∷
    load 0x31 "i64.load8_u" 0 ∷
    load 0x32 "i64.load16_s" 1 ∷
    load 0x33 "i64.load16_u" 1 ∷
    load 0x34 "i64.load32_s" 2 ∷
    load 0x35 "i64.load32_u" 2 ∷
    store 0x36 "i32.store" 2 ∷
    store 0x37 "i64.store" 3 ∷
    store 0x38 "f32.store" 2 ∷
    store 0x39 "f64.store" 3 ∷
    store 0x3a "i32.store8" 0 ∷
    store 0x3b "i32.store16" 1 ∷
    store 0x3c "i64.store8" 0 ∷
    store 0x3d "i64.store16" 1 ∷
    store 0x3e "i64.store32" 2 ∷
    plain 0x3f "memory.size" (DefaultIndexShape Memory) (Fixed 0 1) ∷
    plain 0x40 "memory.grow" (DefaultIndexShape Memory) (Fixed 1 1) ∷
    []
