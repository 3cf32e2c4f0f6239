-- The lengths of the shortest encodings of the parts of operators (section 5.4 of the standard): opcodes, block types,
-- catch clauses and memory operands.
use Rattle.std.specs.Prelude.{◌≡◌, ℕ, List, [], ◌∷◌, ◌++◌, ◌+◌, ◌-◌, ◌<◌, ◌≤◌, length, nat_lt, Bool, true, false, ◌==◌, Option, Some, None, if◌then◌else◌, refl}
use Rattle.std.proofs.Common.{sym, ap, subst, ◌∙◌, arith, inl, inr, eqb, ltb, cond}
use Rattle.std.proofs.lemmas.Bool.{ltb-true, ltb-false, lt-ltb, le-ltb, ne_eqb, cond_both, cases_eq}
use Rattle.std.proofs.lemmas.List.{length-append}
use Rattle.wasmprinter_spec.specs.Grammar.{Grammar, byte, seq, try_map, map_value, succeed, choose, fail, some_is}
use Rattle.wasmprinter_spec.specs.Choices.{tested, untested}
use Rattle.wasmprinter_spec.specs.Leb.{IsUnsigned}
use Rattle.wasmprinter_spec.specs.Name.{u32}
use Rattle.wasmprinter_spec.specs.Binary.{AreBytes}
use Rattle.wasmprinter_spec.specs.Binary.ValTypes.{signed_index, val_type, val_type_after, begins_val_type}
use Rattle.wasmprinter_spec.specs.Operator.{Opcode, opcode, BlockType, Empty, Value, OfType, Catch, One, OneRef, All, AllRef, MemArg, mem_arg_of}
use Rattle.wasmprinter_spec.specs.Instructions.{is_prefix, numbered_opcode, opcode_grammar, block_type, tag_and_label, catch_by, catch, u64, mem_arg}
use Rattle.wasmprinter_hidden.specs.Lengths.{unsigned_len, opcode_len, block_type_len, catch_len, memory_len, mem_arg_len}
use Rattle.wasmprinter_hidden.proofs.Combinators.{Measured, same, Under, Either, HasWithin, Then, split_bytes, joined_length, are_joined, map_measured, try_map_measured, byte_measured, byte_map_measured, then_measured, succeed_measured, fail_measured, choose_measured, either_measured, covered_measured, same_measured, after_parts, after_joined, after_measured, choose_cases, choose_first, choose_second}
use Rattle.wasmprinter_hidden.proofs.Names.{unsigned_measured, u32_measured, signed_index_measured}
use Rattle.wasmprinter_hidden.proofs.ValTypes.{index_byte, index_begins_none, val_first, val_begins, val_measured}

-- ---- Opcodes

-- An opcode has at least one byte.
opcode_some : (o : Opcode) → 1 ≤ opcode_len o
opcode_some o = cond_both (eqb o.prefix 0) 1 (1 + unsigned_len o.number) (λ n. 1 ≤ n) (λ e. omega arith) (λ e. omega arith)

-- A prefix is not 0.
prefix_len : (b n : ℕ) → is_prefix b ≡ true → opcode_len (opcode b n) - 1 ≡ unsigned_len n
prefix_len b n e =
    let other : eqb b 0 ≡ false = ne_eqb b 0 (λ z. let no : is_prefix 0 ≡ true = ap is_prefix (sym z) ∙ e in absurd cc) in
    rw other (omega arith)

-- An opcode after its first byte.
numbered_measured : (b : ℕ) (c : Bool) → is_prefix b ≡ c →
    Measured same (choose c (map_value (opcode b) u32) (succeed (opcode 0 b))).spells (λ o. opcode_len o - 1)
numbered_measured b true e = map_measured (opcode b) (λ n. prefix_len b n e) (λ m n x. ap (opcode b) x) u32_measured
numbered_measured b false e = succeed_measured (opcode 0 b) refl

pub opcode_measured : Measured same opcode_grammar.spells opcode_len
opcode_measured = after_measured numbered_opcode opcode_some (λ b. numbered_measured b (is_prefix b) refl)

-- ---- Block types

-- The block type without a result of the byte 40.
abbrev empty_of : ℕ → Option BlockType
empty_of b = if b == 0x40 then Some Empty else None

-- A block type without a result.
abbrev EmptyBlock : ℕ → List ℕ → BlockType → Type 0
EmptyBlock p t a = (try_map empty_of byte).spells p t a

-- A block type that is a value type.
abbrev ValueBlock : ℕ → List ℕ → BlockType → Type 0
ValueBlock p t a = (map_value Value val_type).spells p t a

-- A block type that is a type index.
abbrev IndexBlock : ℕ → List ℕ → BlockType → Type 0
IndexBlock p t a = (map_value OfType signed_index).spells p t a

-- The encodings of block types are these.
block_cases : (p : ℕ) (t : List ℕ) (a : BlockType) → block_type.spells p t a → Either EmptyBlock (Either ValueBlock IndexBlock) p t a
block_cases p [] a s = absurd s
block_cases p (b ∷ bs) a s =
    elim (choose_cases (b == 0x40) _ _ p (b ∷ bs) a s) [
      | inl (is, (c, made, text)) ↦
          let head : b ≡ c = cc in
          inl (c, ap (λ (x : Bool). cond x (Some Empty) None) (ap (λ (x : ℕ). eqb x 0x40) (sym head) ∙ is) ∙ made, text)
      | inr (other, x) ↦
          elim (choose_cases (begins_val_type b) (map_value Value val_type) (map_value OfType signed_index) p (b ∷ bs) a x) [
            | inl y ↦ inr (inl y.1)
            | inr y ↦ inr (inr y.1)
          ]
    ]

empty_block : (p : ℕ) (t : List ℕ) (a : BlockType) → EmptyBlock p t a → block_type.spells p t a
empty_block p t a (b, is, text) =
    let (forty, made) = tested (eqb b 0x40) (Some Empty) a is in
    subst (λ (x : List ℕ). block_type.spells p x a) (sym text)
    (choose_first (b == 0x40) (map_value (λ x. Empty) byte) _ p (b ∷ []) a forty (b, made, refl))

value_block : (p : ℕ) (t : List ℕ) (a : BlockType) → ValueBlock p t a → block_type.spells p t a
value_block p t a (v, made, spelled) =
    let (b, u, joined, others) = after_parts val_type_after p t v spelled in
    let (from, out) = val_first b (p + 1) u v others in
    subst (λ (x : List ℕ). block_type.spells p x a) (sym joined)
    (choose_second (b == 0x40) _ _ p (b ∷ u) a (ne_eqb b 0x40 (λ z. omega (arith, z, from)))
    (choose_first (begins_val_type b) (map_value Value val_type) _ p (b ∷ u) a (val_begins b (p + 1) u v others)
    (v, made, after_joined val_type_after p b u v others)))

index_block : (p : ℕ) (t : List ℕ) (a : BlockType) → IndexBlock p t a → block_type.spells p t a
index_block p [] a (n, made, (z, positive, s)) = absurd s
index_block p (b ∷ bs) a (n, made, (z, positive, s)) =
    let out = index_byte b bs z n positive s in
    let no_40 : (b == 0x40) ≡ false =
    ne_eqb b 0x40 (λ e. elim out [ inl low ↦ omega (arith, low, e) | inr high ↦ omega (arith, high, e) ]) in
    choose_second (b == 0x40) _ _ p (b ∷ bs) a no_40
    (choose_second (begins_val_type b) _ (map_value OfType signed_index) p (b ∷ bs) a (index_begins_none b out) (n, made, (z, positive, s)))

-- The length of the block type without a result.
empty_len : (b : ℕ) (a : BlockType) → empty_of b ≡ Some a → block_type_len a ≡ 1
empty_len b a e = ap block_type_len (sym (some_is Empty a (tested (eqb b 0x40) (Some Empty) a e).1))

pub block_measured : Measured same block_type.spells block_type_len
block_measured =
    same_measured
    (λ p t a s. elim s [ inl x ↦ empty_block p t a x | inr (inl x) ↦ value_block p t a x | inr (inr x) ↦ index_block p t a x ]) block_cases
    (either_measured (try_map_measured empty_of empty_len byte_measured)
    (either_measured (map_measured Value (λ v. refl) (λ v w e. ap Value e) val_measured)
    (map_measured OfType (λ n. refl) (λ m n e. ap OfType e) signed_index_measured)))

-- ---- Catch clauses

-- A catch clause has at least the byte of its kind.
catch_some : (c : Catch) → 1 ≤ catch_len c
catch_some (One tag label) = omega arith
catch_some (OneRef tag label) = omega arith
catch_some (All label) = omega arith
catch_some (AllRef label) = omega arith

-- A tag and a label.
tag_and_label_measured : (c : ℕ → ℕ → Catch) → ((m n : ℕ) → catch_len (c m n) ≡ 1 + unsigned_len m + unsigned_len n) →
    Measured same (tag_and_label c).spells (λ a. catch_len a - 1)
tag_and_label_measured c size =
    map_measured (λ (x : ℕ × ℕ). c x.0 x.1) (λ x. omega (arith, size x.0 x.1)) (λ x y e. ap (λ (z : ℕ × ℕ). c z.0 z.1) e)
    (then_measured u32_measured u32_measured)

pub catch_measured : Measured same catch.spells catch_len
catch_measured =
    after_measured catch_by catch_some (λ k.
    choose_measured (k == 0) _ _ (tag_and_label_measured One (λ m n. refl))
    (choose_measured (k == 1) _ _ (tag_and_label_measured OneRef (λ m n. refl))
    (choose_measured (k == 2) _ _ (map_measured All (λ n. omega arith) (λ m n e. ap All e) u32_measured)
    (choose_measured (k == 3) _ _ (map_measured AllRef (λ n. omega arith) (λ m n e. ap AllRef e) u32_measured) fail_measured))))

-- ---- Memory operands

-- The exponent of the alignment in a byte of an operand in memory 0.
abbrev short_exponent : ℕ → Option ℕ
short_exponent b = if nat_lt b 64 then Some b else None

-- The exponent of the alignment in a byte of an operand that has the index of its memory.
abbrev long_exponent : ℕ → Option ℕ
long_exponent b = if nat_lt b 64 then None else (if nat_lt b 128 then Some (b - 64) else None)

-- An index other than 0.
abbrev pub non_zero : ℕ → Option ℕ
non_zero n = if n == 0 then None else Some n

-- The length of an index of a memory other than memory 0.
non_zero_len : (n m : ℕ) → non_zero n ≡ Some m → memory_len m ≡ unsigned_len n
non_zero_len n m e =
    let (other, is) = untested (eqb n 0) (Some n) m e in
    let size : memory_len n ≡ unsigned_len n = rw other refl in
    ap memory_len (sym (some_is n m is)) ∙ size

-- An index other than 0 is the number that is encoded.
pub non_zero_is : (n m : ℕ) → non_zero n ≡ Some m → n ≡ m
non_zero_is n m e = some_is n m (untested (eqb n 0) (Some n) m e).1

-- A number other than 0 is an index other than 0.
pub non_zero_from : (n : ℕ) → (n ≡ 0 → ⊥) → non_zero n ≡ Some n
non_zero_from n other = rw (ne_eqb n 0 other) refl

-- An index of a memory other than 0.
abbrev pub OtherMemory : ℕ → List ℕ → ℕ → Type 0
OtherMemory p t n = (try_map non_zero u32).spells p t n

pub other_memory_measured : Measured same OtherMemory memory_len
other_memory_measured = try_map_measured non_zero non_zero_len u32_measured

-- The operand in memory 0 with this exponent and this offset.
abbrev short_mem_arg : ℕ × ℕ → MemArg
short_mem_arg x = mem_arg_of x.0 0 x.1

-- The exponent, and an offset in memory 0.
abbrev ShortMemArg : ℕ → List ℕ → MemArg → Type 0
ShortMemArg p t a = Under (λ x. Some (short_mem_arg x)) (Then (try_map short_exponent byte).spells u64.spells) p t a

-- The operand with this exponent, in this memory, with this offset.
abbrev long_mem_arg : ℕ × (ℕ × ℕ) → MemArg
long_mem_arg x = mem_arg_of x.0 x.1.0 x.1.1

-- The exponent, and an offset in another memory.
abbrev LongMemArg : ℕ → List ℕ → MemArg → Type 0
LongMemArg p t a = Under (λ x. Some (long_mem_arg x)) (Then (try_map long_exponent byte).spells (Then OtherMemory u64.spells)) p t a

-- The encodings of memory operands without a needless index of memory 0.
brief_mem_arg_measured : Measured same (Either ShortMemArg LongMemArg) mem_arg_len
brief_mem_arg_measured =
    let offset_measured : Measured same u64.spells unsigned_len = unsigned_measured 64 (omega arith) in
    either_measured
    (map_measured short_mem_arg (λ x. omega arith) (λ x y e. ap short_mem_arg e) (then_measured (byte_map_measured short_exponent) offset_measured))
    (map_measured long_mem_arg (λ x. omega arith) (λ x y e. ap long_mem_arg e)
    (then_measured (byte_map_measured long_exponent) (then_measured other_memory_measured offset_measured)))

-- An integer is encoded by at least one byte, and by one byte if it is below 128.
pub u32_some : (t : List ℕ) (n : ℕ) → IsUnsigned 32 t n → 1 ≤ length t
u32_some [] n s = absurd s
u32_some (b ∷ bs) n s = omega arith

-- A number below 128 is encoded by that byte.
pub u32_byte : (n : ℕ) → n < 128 → IsUnsigned 32 (n ∷ []) n
u32_byte n below = inl (below, omega (arith, below), refl, refl)

-- These encodings are encodings of memory operands.
short_joined : (p : ℕ) (t : List ℕ) (a : MemArg) → ShortMemArg p t a → mem_arg.spells p t a
short_joined p text a ((exponent, offset), made, (t, u, joined, (b, is, byte), spelled)) =
    let (below, same_exponent) = tested (ltb b 64) (Some b) exponent is in
    let less : b < 64 = ltb-true b 64 below in
    let value : ◌≡◌ {A = Option MemArg} (Some (mem_arg_of b 0 offset)) (Some a) =
    ap (λ (e : ℕ). Some (mem_arg_of e 0 offset)) (some_is b exponent same_exponent) ∙ made in
    let number : IsUnsigned 32 t b = subst (λ (x : List ℕ). IsUnsigned 32 x b) (sym byte) (u32_byte b (omega (arith, less))) in
    ((b, a), refl, (t, u, joined, number, choose_first (nat_lt b 64) (map_value (mem_arg_of b 0) u64) _ (p + length t) u a below (offset, value, spelled)))

-- The parts of a byte of an operand that has the index of its memory.
long_byte : (b exponent : ℕ) → long_exponent b ≡ Some exponent → (nat_lt b 64 ≡ false) × (nat_lt b 128 ≡ true) × (b - 64 ≡ exponent)
long_byte b exponent e =
    let (from, rest) = untested (ltb b 64) (cond (ltb b 128) (Some (b - 64)) None) exponent e in
    let (below, is) = tested (ltb b 128) (Some (b - 64)) exponent rest in
    (from, below, some_is (b - 64) exponent is)

-- The memory operand after its first number, if it is from 64 on.
abbrev long_after : ℕ → Grammar MemArg
long_after n = map_value (λ x. mem_arg_of (n - 64) x.0 x.1) (seq u32 (λ _. u64))

long_joined : (p : ℕ) (t : List ℕ) (a : MemArg) → LongMemArg p t a → mem_arg.spells p t a
long_joined p text a ((exponent, (memory, offset)), made, (t, u, joined, (b, is, byte), (v, w, parts, (m, other, index), spelled))) =
    let (from, below, same_exponent) = long_byte b exponent is in
    let less : b < 128 = ltb-true b 128 below in
    let value : ◌≡◌ {A = Option MemArg} (Some (mem_arg_of (b - 64) m offset)) (Some a) =
    ap (λ (e : ℕ). Some (mem_arg_of e m offset)) same_exponent
    ∙ ap (λ (k : ℕ). Some (mem_arg_of exponent k offset)) (non_zero_is m memory other) ∙ made in
    let number : IsUnsigned 32 t b = subst (λ (x : List ℕ). IsUnsigned 32 x b) (sym byte) (u32_byte b less) in
    let after : (long_after b).spells (p + length t) u a = ((m, offset), value, (v, w, parts, index, spelled)) in (
      (b, a),
      refl,
      (
        t,
        u,
        joined,
        number,
        choose_second (nat_lt b 64) _ _ (p + length t) u a from (choose_first (nat_lt b 128) (long_after b) fail (p + length t) u a below after),
      ),
    )

-- Either kind of operand has an encoding without needless bytes, which is not longer.
short_back : (p n offset : ℕ) (u : List ℕ) (a : MemArg) (most : ℕ) → n < 64 → AreBytes u → mem_arg_of n 0 offset ≡ a → IsUnsigned 64 u offset →
    1 + length u ≤ most → HasWithin (Either ShortMemArg LongMemArg) a most
short_back p n offset u a most below are made spelled size =
    let exponent : short_exponent n ≡ Some n = rw (lt-ltb n 64 below) refl in
    (p, n ∷ u, (omega (arith, below), are), inl ((n, offset), ap Some made, (n ∷ [], u, refl, (n, exponent, refl), spelled)), omega (arith, size))

-- The same for an operand that has the index of its memory, which may be needless.
long_back : (p n memory offset : ℕ) (v w : List ℕ) (a : MemArg) (most : ℕ) → 64 ≤ n → n < 128 → AreBytes v → AreBytes w →
    mem_arg_of (n - 64) memory offset ≡ a → IsUnsigned 32 v memory → IsUnsigned 64 w offset → 1 + (length v + length w) ≤ most →
    HasWithin (Either ShortMemArg LongMemArg) a most
long_back p n memory offset v w a most from below are_v are_w made index spelled size =
    elim (cases_eq memory 0) [
      | inl zeroth ↦
          let value : mem_arg_of (n - 64) 0 offset ≡ a = ap (λ (k : ℕ). mem_arg_of (n - 64) k offset) (sym zeroth) ∙ made in
          short_back p (n - 64) offset w a most (omega (arith, below)) are_w value spelled (omega (arith, size, u32_some v memory index))
      | inr other ↦
          let exponent : long_exponent n ≡ Some (n - 64) = rw (le-ltb n 64 from, lt-ltb n 128 below) refl in (
            p,
            n ∷ (v ++ w),
            (omega (arith, below), are_joined v w are_v are_w),
            inr (
              (n - 64, (memory, offset)),
              ap Some made,
              (n ∷ [], v ++ w, refl, (n, exponent, refl), (v, w, refl, (memory, non_zero_from memory other, index), spelled)),
            ),
            omega (arith, size, length-append v w),
          )
    ]

-- Each encoding of a memory operand is at least as long as one without a needless index.
mem_arg_back : (p : ℕ) (t : List ℕ) (a : MemArg) → AreBytes t → mem_arg.spells p t a → HasWithin (Either ShortMemArg LongMemArg) a (length t)
mem_arg_back p text a are ((n, c), is, (t, u, joined, number, others)) =
    let parts = split_bytes text t u joined are in
    let some : 1 ≤ length t = u32_some t n number in
    let size : length text ≡ length t + length u = joined_length text t u joined in
    let same_value : c ≡ a = some_is c a is in
    elim (choose_cases (nat_lt n 64) (map_value (mem_arg_of n 0) u64) _ (p + length t) u c others) [
      | inl (below, (offset, made, spelled)) ↦
          short_back p n offset u a (length text) (ltb-true n 64 below) parts.1 (some_is (mem_arg_of n 0 offset) c made ∙ same_value) spelled
          (omega (arith, some, size))
      | inr (from, x) ↦
          elim (choose_cases (nat_lt n 128) (long_after n) fail (p + length t) u c x) [
            | inl (below, ((memory, offset), made, (v, w, split, index, spelled))) ↦
                let halves = split_bytes u v w split parts.1 in
                long_back p n memory offset v w a (length text) (ltb-false n 64 from) (ltb-true n 128 below) halves.0 halves.1
                (some_is (mem_arg_of (n - 64) memory offset) c made ∙ same_value) index spelled
                (omega (arith, some, size, joined_length u v w split))
            | inr none ↦ absurd none.1
          ]
    ]

pub mem_arg_measured : Measured same mem_arg.spells mem_arg_len
mem_arg_measured =
    covered_measured (λ p t a s. elim s [ inl x ↦ short_joined p t a x | inr x ↦ long_joined p t a x ]) mem_arg_back brief_mem_arg_measured
