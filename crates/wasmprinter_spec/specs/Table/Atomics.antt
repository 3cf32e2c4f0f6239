-- Atomic operators, after the prefix FE (threads proposal, "Binary format"). The exponents are those of the
-- natural alignment.
use Prim.Native.String.{String}
use Rattle.std.specs.Prelude.{ℕ, List, [], ◌∷◌}
use Rattle.wasmprinter_spec.specs.Row.{Row, FenceShape, MemoryShape, Arity, Fixed}
use Rattle.wasmprinter_spec.specs.Table.Rows.{prefixed_row}

-- An operator with a memory operand: the number after the prefix, the word, the natural exponent, and the arity.
abbrev atomic : ℕ → String → ℕ → Arity → Row
atomic n w natural a = prefixed_row 0xfe n w (MemoryShape natural) a

-- The atomic operators.
unfoldable pub atomic_rows : List Row
atomic_rows =
    atomic 0x00 "memory.atomic.notify" 2 (Fixed 2 1) ∷
    atomic 0x01 "memory.atomic.wait32" 2 (Fixed 3 1) ∷
    atomic 0x02 "memory.atomic.wait64" 3 (Fixed 3 1) ∷
    prefixed_row 0xfe 0x03 "atomic.fence" FenceShape (Fixed 0 0) ∷
    atomic 0x10 "i32.atomic.load" 2 (Fixed 1 1) ∷
    atomic 0x11 "i64.atomic.load" 3 (Fixed 1 1) ∷
    atomic 0x12 "i32.atomic.load8_u" 0 (Fixed 1 1) ∷
    atomic 0x13 "i32.atomic.load16_u" 1 (Fixed 1 1) ∷
    atomic 0x14 "i64.atomic.load8_u" 0 (Fixed 1 1) ∷
    atomic 0x15 "i64.atomic.load16_u" 1 (Fixed 1 1) ∷
    atomic 0x16 "i64.atomic.load32_u" 2 (Fixed 1 1) ∷
    atomic 0x17 "i32.atomic.store" 2 (Fixed 2 0) ∷
    atomic 0x18 "i64.atomic.store" 3 (Fixed 2 0) ∷
    atomic 0x19 "i32.atomic.store8" 0 (Fixed 2 0) ∷
    atomic 0x1a "i32.atomic.store16" 1 (Fixed 2 0) ∷
    atomic 0x1b "i64.atomic.store8" 0 (Fixed 2 0) ∷
    atomic 0x1c "i64.atomic.store16" 1 (Fixed 2 0) ∷
    atomic 0x1d "i64.atomic.store32" 2 (Fixed 2 0) ∷
    atomic 0x1e "i32.atomic.rmw.add" 2 (Fixed 2 1) ∷
    atomic 0x1f "i64.atomic.rmw.add" 3 (Fixed 2 1) ∷
    atomic 0x20 "i32.atomic.rmw8.add_u" 0 (Fixed 2 1) ∷
    atomic 0x21 "i32.atomic.rmw16.add_u" 1 (Fixed 2 1) ∷
    atomic 0x22 "i64.atomic.rmw8.add_u" 0 (Fixed 2 1) ∷
    atomic 0x23 "i64.atomic.rmw16.add_u" 1 (Fixed 2 1) ∷
    atomic 0x24 "i64.atomic.rmw32.add_u" 2 (Fixed 2 1) ∷
    atomic 0x25 "i32.atomic.rmw.sub" 2 (Fixed 2 1) ∷
    atomic 0x26 "i64.atomic.rmw.sub" 3 (Fixed 2 1) ∷
    atomic 0x27 "i32.atomic.rmw8.sub_u" 0 (Fixed 2 1) ∷
    atomic 0x28 "i32.atomic.rmw16.sub_u" 1 (Fixed 2 1) ∷
    atomic 0x29 "i64.atomic.rmw8.sub_u" 0 (Fixed 2 1) ∷
    atomic 0x2a "i64.atomic.rmw16.sub_u" 1 (Fixed 2 1) ∷
    atomic 0x2b "i64.atomic.rmw32.sub_u" 2 (Fixed 2 1) ∷
    atomic 0x2c "i32.atomic.rmw.and" 2 (Fixed 2 1) ∷
    atomic 0x2d "i64.atomic.rmw.and" 3 (Fixed 2 1) ∷
    atomic 0x2e "i32.atomic.rmw8.and_u" 0 (Fixed 2 1) ∷
    atomic 0x2f "i32.atomic.rmw16.and_u" 1 (Fixed 2 1) ∷
    atomic 0x30 "i64.atomic.rmw8.and_u" 0 (Fixed 2 1) ∷
    atomic 0x31 "i64.atomic.rmw16.and_u" 1 (Fixed 2 1) ∷
    atomic 0x32 "i64.atomic.rmw32.and_u" 2 (Fixed 2 1) ∷
    atomic 0x33 "i32.atomic.rmw.or" 2 (Fixed 2 1) ∷
    atomic 0x34 "i64.atomic.rmw.or" 3 (Fixed 2 1) ∷
    atomic 0x35 "i32.atomic.rmw8.or_u" 0 (Fixed 2 1) ∷
    atomic 0x36 "i32.atomic.rmw16.or_u" 1 (Fixed 2 1) ∷
    atomic 0x37 "i64.atomic.rmw8.or_u" 0 (Fixed 2 1) ∷
    atomic 0x38 "i64.atomic.rmw16.or_u" 1 (Fixed 2 1) ∷
    atomic 0x39 "i64.atomic.rmw32.or_u" 2 (Fixed 2 1) ∷
    atomic 0x3a "i32.atomic.rmw.xor" 2 (Fixed 2 1) ∷
    atomic 0x3b "i64.atomic.rmw.xor" 3 (Fixed 2 1) ∷
    atomic 0x3c "i32.atomic.rmw8.xor_u" 0 (Fixed 2 1) ∷
    atomic 0x3d "i32.atomic.rmw16.xor_u" 1 (Fixed 2 1) ∷
    atomic 0x3e "i64.atomic.rmw8.xor_u" 0 (Fixed 2 1) ∷
    atomic 0x3f "i64.atomic.rmw16.xor_u" 1 (Fixed 2 1) ∷
    atomic 0x40 "i64.atomic.rmw32.xor_u" 2 (Fixed 2 1) ∷
    atomic 0x41 "i32.atomic.rmw.xchg" 2 (Fixed 2 1) ∷
    atomic 0x42 "i64.atomic.rmw.xchg" 3 (Fixed 2 1) ∷
    atomic 0x43 "i32.atomic.rmw8.xchg_u" 0 (Fixed 2 1) ∷
    atomic 0x44 "i32.atomic.rmw16.xchg_u" 1 (Fixed 2 1) ∷
    atomic 0x45 "i64.atomic.rmw8.xchg_u" 0 (Fixed 2 1) ∷
    atomic 0x46 "i64.atomic.rmw16.xchg_u" 1 (Fixed 2 1) ∷
    atomic 0x47 "i64.atomic.rmw32.xchg_u" 2 (Fixed 2 1) ∷
    atomic 0x48 "i32.atomic.rmw.cmpxchg" 2 (Fixed 3 1) ∷
    atomic 0x49 "i64.atomic.rmw.cmpxchg" 3 (Fixed 3 1) ∷
    atomic 0x4a "i32.atomic.rmw8.cmpxchg_u" 0 (Fixed 3 1) ∷
    atomic 0x4b "i32.atomic.rmw16.cmpxchg_u" 1 (Fixed 3 1) ∷
    atomic 0x4c "i64.atomic.rmw8.cmpxchg_u" 0 (Fixed 3 1) ∷
    atomic 0x4d "i64.atomic.rmw16.cmpxchg_u" 1 (Fixed 3 1) ∷
    atomic 0x4e "i64.atomic.rmw32.cmpxchg_u" 2 (Fixed 3 1) ∷
    []
