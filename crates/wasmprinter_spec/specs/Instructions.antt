-- How bytes encode operators and expressions (section 5.4 of the standard). An expression contains nested blocks.
use Rattle.std.specs.Prelude.{◌≡◌, ◌⊎◌, ℕ, ◌+◌, ◌-◌, ◌*◌, nat_lt, ◌<◌, List, [], length, ◌∷◌, ◌++◌, map, Bool, true, false, cond, ◌||◌, ◌&&◌, ◌==◌, Option, Some, None, refl}
use Rattle.std.proofs.Common.{sym, ap, ◌∙◌, subst, arith, append-nil, inl, inr, eqb}
use Rattle.std.proofs.lemmas.Bool.{and_parts, eqb-true}
use Rattle.std.proofs.lemmas.List.{length-append}
use Rattle.wasmprinter_spec.specs.Grammar.{input, Grammar, byte, seq, try_map, map_value, succeed, fail, choose, Placed, value_with_place, with_spelling, some_is}
use Rattle.wasmprinter_spec.specs.Repeated.{AreItems}
use Rattle.wasmprinter_spec.specs.Leb.{signed, unsigned}
use Rattle.wasmprinter_spec.specs.Name.{u32, vec}
use Rattle.wasmprinter_spec.specs.Sized.{take_bytes}
use Rattle.wasmprinter_spec.specs.FirstByte.{only, after_first_byte, by_first_byte}
use Rattle.wasmprinter_spec.specs.Types.{ref_type}
use Rattle.wasmprinter_spec.specs.Binary.ValTypes.{lookup, signed_index, heap_type, val_type, begins_val_type}
use Rattle.wasmprinter_spec.specs.Operator.{Opcode, opcode, BlockType, Empty, Value, OfType, Catch, One, OneRef, All, AllRef, MemArg, mem_arg_of, Immediates, NoImmediates, Block, TryTable, Index, Indices, BranchTable, Types, Heap, Cast, Memory, MemoryLane, Lane, I32, I64, F32, F64, Bytes, Operator}
use Rattle.wasmprinter_spec.specs.Row.{Row, Shape, NoneShape, FenceShape, BlockShape, TryTableShape, IndexShape, DefaultIndexShape, PairShape, FieldShape, CountShape, CallShape, SegmentShape, CopyShape, BranchTableShape, SelectShape, HeapShape, RefShape, CastShape, MemoryShape, MemoryLaneShape, LaneShape, I32Shape, I64Shape, F32Shape, F64Shape, VectorShape, LanesShape, Role, Ends}
use Rattle.wasmprinter_spec.specs.Table.{table, first, has_opcode, by_opcode, role_of, role_of_row}
use Rattle.wasmprinter_spec.specs.Stepped.{Move, On, Stop, Never, by_move, stops, Ended, list_with_last, items_by_steps}
use Rattle.wasmprinter_spec.specs.Nesting.{Nests, Sequence, Open, advance, at_start}
use Rattle.wasmprinter_spec.specs.NestingSteps.{stops_at_end, nested_to_end}

-- The byte is a prefix: a number follows it.
abbrev pub is_prefix : ℕ → Bool
is_prefix b = (b == 0xfb) || ((b == 0xfc) || ((b == 0xfd) || (b == 0xfe)))

-- An opcode after its first byte b: if b is a prefix, the number of the opcode follows; otherwise b is the opcode.
abbrev pub numbered_opcode : ℕ → Grammar Opcode
numbered_opcode b = choose (is_prefix b) (map_value (opcode b) u32) (succeed (opcode 0 b))

-- An opcode: a byte, or a prefix and a number.
abbrev pub opcode_grammar : Grammar Opcode
opcode_grammar = map_value (λ x. x.1) (seq byte numbered_opcode)

-- A block type, by its first byte: the byte 40, a value type, or a type index.
abbrev pub block_type_by : ℕ → Grammar BlockType
block_type_by b =
    choose (b == 0x40) (map_value (λ x. Empty) byte) (choose (begins_val_type b) (map_value Value val_type) (map_value OfType signed_index))

-- A block type (section 5.4, "Control Instructions").
abbrev pub block_type : Grammar BlockType
block_type = by_first_byte block_type_by

-- A tag and a label.
abbrev pub tag_and_label : (ℕ → ℕ → Catch) → Grammar Catch
tag_and_label c = map_value (λ x. c x.0 x.1) (seq u32 (λ _. u32))

-- A catch clause after its first byte, which is 00, 01, 02 or 03.
abbrev pub catch_by : ℕ → Grammar Catch
catch_by k =
    choose (k == 0) (tag_and_label One)
    (choose (k == 1) (tag_and_label OneRef) (choose (k == 2) (map_value All u32) (choose (k == 3) (map_value AllRef u32) fail)))

-- A catch clause (section 5.4, "Control Instructions").
abbrev pub catch : Grammar Catch
catch = after_first_byte catch_by

-- An unsigned integer of 64 bits (the standard's `u64`).
abbrev pub u64 : Grammar ℕ
u64 = unsigned 64

-- A memory operand (section 5.4, "Memory Instructions") after its first number n. Below 64, n is the exponent of
-- the alignment and the memory is 0. Below 128, the exponent is n - 64 and the index of the memory follows. The
-- offset comes last.
abbrev pub mem_arg_by : ℕ → Grammar MemArg
mem_arg_by n =
    choose (nat_lt n 64) (map_value (mem_arg_of n 0) u64)
    (choose (nat_lt n 128) (map_value (λ x. mem_arg_of (n - 64) x.0 x.1) (seq u32 (λ _. u64))) fail)

-- A memory operand.
abbrev pub mem_arg : Grammar MemArg
mem_arg = map_value (λ x. x.1) (seq u32 mem_arg_by)

-- Two indices, or an index and a number.
abbrev pub indices : Grammar Immediates
indices = map_value (λ x. Indices x.0 x.1) (seq u32 (λ _. u32))

-- Whether the two reference types of a cast are nullable.
abbrev pub cast_nulls : ℕ → Option (Bool × Bool)
cast_nulls b = lookup ((0x00, (false, false)) ∷ (0x01, (true, false)) ∷ (0x02, (false, true)) ∷ (0x03, (true, true)) ∷ []) b

-- The immediates of a cast: the byte of `cast_nulls`, a label, and two heap types.
abbrev pub cast : Grammar Immediates
cast =
    map_value (λ ((from_null, to_null), (label, (from, to))). Cast label (ref_type from_null from) (ref_type to_null to))
    (seq (try_map cast_nulls byte) (λ _. seq u32 (λ _. seq heap_type (λ _. heap_type))))

-- The number that the bytes represent, the lowest byte first.
abbrev pub little_endian : List ℕ → ℕ
little_endian [] = 0
little_endian (b ∷ bs) = b + 256 * little_endian bs

-- The bits of a float of n bytes.
abbrev pub float_bits : ℕ → Grammar ℕ
float_bits n = map_value little_endian (take_bytes n)

-- The immediates of each shape, a line for each.
abbrev pub immediates : Shape → Grammar Immediates
immediates NoneShape = succeed NoImmediates
immediates FenceShape = map_value (λ _. NoImmediates) (only 0x00)
immediates BlockShape = map_value Block block_type
immediates TryTableShape = map_value (λ x. TryTable x.0 x.1) (seq block_type (λ _. vec catch))
immediates (IndexShape space) = map_value Index u32
immediates (DefaultIndexShape space) = map_value Index u32
immediates (PairShape first second) = indices
immediates FieldShape = indices
immediates CountShape = indices
immediates CallShape = indices
immediates (SegmentShape segments space) = indices
immediates (CopyShape space) = indices
immediates BranchTableShape = map_value (λ x. BranchTable x.0 x.1) (seq (vec u32) (λ _. u32))
immediates SelectShape = map_value Types (vec val_type)
immediates HeapShape = map_value Heap heap_type
immediates (RefShape null) = map_value Heap heap_type
immediates CastShape = cast
immediates (MemoryShape natural) = map_value Memory mem_arg
immediates (MemoryLaneShape natural) = map_value (λ x. MemoryLane x.0 x.1) (seq mem_arg (λ _. byte))
immediates LaneShape = map_value Lane byte
immediates I32Shape = map_value I32 (signed 32)
immediates I64Shape = map_value I64 (signed 64)
immediates F32Shape = map_value F32 (float_bits 4)
immediates F64Shape = map_value F64 (float_bits 8)
immediates VectorShape = map_value Bytes (take_bytes 16)
immediates LanesShape = map_value Bytes (take_bytes 16)

-- The immediates of the shape of the row. If there is no row, no bytes encode immediates.
abbrev pub immediates_of_row : Option Row → Grammar Immediates
immediates_of_row None = fail
immediates_of_row (Some r) = immediates r.shape

-- An opcode that the table lists, and its immediates.
abbrev pub operator : Grammar Operator
operator = map_value (λ x. record { opcode = x.0; immediates = x.1 }) (seq opcode_grammar (λ o. immediates_of_row (by_opcode o)))

-- ---- Expressions

-- The byte of the `end` that closes an expression.
abbrev pub end_byte : ℕ
end_byte = 0x0b

-- Operators, and the place of the `end` that closes them.
pub record Closed (A : Type 0) : Type 0 where
  pub items : List A
  pub end : ℕ

-- The role of the operator in the nesting of blocks.
abbrev pub role_at : Placed Operator → Role
role_at o = role_of o.value.opcode

-- The role of each operator.
abbrev pub roles : List (Placed Operator) → List Role
roles ops = map role_at ops

-- The bytes encode well-nested operators, one after the other, and then the `end`, which is the byte 0B at the
-- place x.end.
abbrev pub IsExpression : ℕ → List ℕ → Closed (Placed Operator) → Type 0
IsExpression p text x =
    (t : List ℕ) × (text ≡ t ++ end_byte ∷ []) × AreItems (value_with_place operator) p t x.items × Nests Sequence (roles x.items)
    × (x.end ≡ p + length t)

-- ---- Reading keeps the open blocks

-- An operator is encoded by at least one byte.
pub operator_takes : (p : ℕ) (text : List ℕ) (o : Placed Operator) → (value_with_place operator).spells p text o → 0 < length text
operator_takes p text o s =
    let (_, (_, _, (front, back, joined, code, _))) = s in
    let (_, _, (first, number, front_joined, one_byte, _)) = code in
    omega (arith, ap length joined, length-append front back, ap length front_joined, length-append first number, ap length one_byte)

-- The open blocks after one more operator; `Stop` if it closes the expression, `Never` if it may not occur here.
abbrev pub advance_by : Open → Placed Operator → Move Open
advance_by s o = advance s (role_at o)

-- Operators up to the `end` that closes the expression.
abbrev pub up_to_end : Grammar (Ended (Placed Operator))
up_to_end = items_by_steps (value_with_place operator) advance_by operator_takes at_start

-- The operators before the last one, and the place of the last one, which is the `end`.
abbrev pub closed_of_ended : Ended (Placed Operator) → Closed (Placed Operator)
closed_of_ended x = record { items = x.items; end = x.last.place }

-- An expression, read operator by operator: operators up to the `end` that closes the expression, and the place of
-- this `end`.
abbrev pub closed_grammar : Grammar (Closed (Placed Operator))
closed_grammar = map_value closed_of_ended up_to_end

same_move : {X : Type 0} (m : Move Open) (f h : Open → X) (x y : X) → ((t : Open) → f t ≡ h t) → by_move m f x y ≡ by_move m h x y
same_move (On t) f h x y e = e t
same_move Stop f h x y e = refl
same_move Never f h x y e = refl

stops-roles : (ops : List (Placed Operator)) (last : Placed Operator) (s : Open) →
    stops advance_by s ops last ≡ stops advance s (roles ops) (role_at last)
stops-roles [] last s = refl
stops-roles (o ∷ ops) last s =
    same_move (advance_by s o) (λ t. stops advance_by t ops last) (λ t. stops advance t (roles ops) (role_at last)) false false
    (λ t. stops-roles ops last t)

-- ---- The only operator with the role `Ends` is 0B

-- The role is `Ends`, that of the operator `end`.
abbrev is_end : Role → Bool
is_end Ends = true
is_end _ = false

-- If the row has the role `Ends`, its opcode is the byte 0B.
abbrev fits_end : Row → Bool
fits_end r = cond (is_end r.role) ((r.prefix == 0) && (r.number == end_byte)) true

-- `fits_end` of each row.
abbrev all_fit : List Row → Bool
all_fit [] = true
all_fit (r ∷ rs) = fits_end r && all_fit rs

table_fits : all_fit table ≡ true
unfolding table
table_fits = refl

found_or_later : (b : Bool) (r : Row) (x : Option Row) → role_of_row (cond b (Some r) x) ≡ Ends →
    ((b ≡ true) × (r.role ≡ Ends)) ⊎ (role_of_row x ≡ Ends)
found_or_later true r x e = inl (refl, e)
found_or_later false r x e = inr e

row_numbers : (r : Row) → fits_end r ≡ true → r.role ≡ Ends → (r.prefix ≡ 0) × (r.number ≡ end_byte)
row_numbers r f e =
    let g : cond (is_end Ends) (eqb r.prefix 0 && eqb r.number end_byte) true ≡ true =
    ap (λ (x : Role). cond (is_end x) (eqb r.prefix 0 && eqb r.number end_byte) true) (sym e) ∙ f in
    let parts = and_parts (eqb r.prefix 0) (eqb r.number end_byte) g in
    (eqb-true r.prefix 0 parts.0, eqb-true r.number end_byte parts.1)

end_in : (o : Opcode) (rs : List Row) → all_fit rs ≡ true → role_of_row (first (has_opcode o) rs) ≡ Ends → o ≡ opcode 0 end_byte
end_in o [] f e = absurd cc
end_in o (r ∷ rs) f e =
    let fit = and_parts (fits_end r) (all_fit rs) f in
    elim (found_or_later (has_opcode o r) r (first (has_opcode o) rs) e) [
      | inl here ↦
          let n = row_numbers r fit.0 here.1 in
          let same = and_parts (eqb r.prefix o.prefix) (eqb r.number o.number) here.0 in
          let p : o.prefix ≡ 0 = sym (eqb-true r.prefix o.prefix same.0) ∙ n.0 in
          let k : o.number ≡ end_byte = sym (eqb-true r.number o.number same.1) ∙ n.1 in
          ap (λ (q : ℕ). opcode q o.number) p ∙ ap (λ (q : ℕ). opcode 0 q) k
      | inr later ↦ end_in o rs fit.1 later
    ]

end_opcode : (o : Opcode) → role_of o ≡ Ends → o ≡ opcode 0 end_byte
end_opcode o e = end_in o table table_fits e

-- If a byte b and the bytes t encode the opcode 0B, then t is empty and b is 0B.
code_text : (c : Bool) (b p : ℕ) (t : List ℕ) (o : Opcode) → is_prefix b ≡ c →
    (choose c (map_value (opcode b) u32) (succeed (opcode 0 b))).spells p t o → o ≡ opcode 0 end_byte → (t ≡ []) × (b ≡ end_byte)
code_text true b p t o c s e =
    let same : b ≡ 0 = ap (λ (x : Opcode). x.prefix) (some_is (opcode b s.0) o s.1 ∙ e) in
    let f : is_prefix 0 ≡ true = ap is_prefix (sym same) ∙ c in
    absurd cc
code_text false b p t o c s e = (s.0, ap (λ (x : Opcode). x.number) (sym s.1 ∙ e))

no_immediates : (p : ℕ) (t : List ℕ) (i : Immediates) → (immediates_of_row (by_opcode (opcode 0 end_byte))).spells p t i →
    (t ≡ []) × (i ≡ NoImmediates)
unfolding table
no_immediates p t i s = s

-- The operator `end`.
abbrev pub end_operator : Operator
end_operator = record { opcode = opcode 0 end_byte; immediates = NoImmediates }

end_text : (p : ℕ) (text : List ℕ) (o : Operator) → operator.spells p text o → role_of o.opcode ≡ Ends → text ≡ end_byte ∷ []
end_text p text o s e =
    let ((code, operands), made, (front, back, joined, code_spelled, operands_spelled)) = s in
    let ((first_byte, numbered), same_code, (_, number, front_joined, one_byte, number_spelled)) = code_spelled in
    let code_is : code ≡ o.opcode = ap (λ (x : Operator). x.opcode) (some_is (record { opcode = code; immediates = operands }) o made) in
    let is : code ≡ opcode 0 end_byte = code_is ∙ end_opcode o.opcode e in
    let same : numbered ≡ code = some_is numbered code same_code in
    let c = code_text (is_prefix first_byte) first_byte _ number numbered refl number_spelled (same ∙ is) in
    let after : (immediates_of_row (by_opcode (opcode 0 end_byte))).spells (p + length front) back operands =
    subst (λ (k : Opcode). (immediates_of_row (by_opcode k)).spells (p + length front) back operands) is operands_spelled in
    let n = no_immediates (p + length front) back operands after in
    let first : front ≡ first_byte ∷ number = front_joined ∙ ap (λ (r : List ℕ). r ++ number) one_byte in
    let front_is : front ≡ end_byte ∷ [] = first ∙ ap (λ (r : List ℕ). (first_byte ∷ []) ++ r) c.0 ∙ ap (λ (b : ℕ). b ∷ []) c.1 in
    joined ∙ ap (λ (r : List ℕ). r ++ back) front_is ∙ ap (λ (r : List ℕ). (end_byte ∷ []) ++ r) n.0

end_read : (p : ℕ) → operator.parse (input p (end_byte ∷ [])) ≡ Some (end_operator, input (p + 1) [])
unfolding table
end_read p = refl

end_spelled : (p : ℕ) → operator.spells p (end_byte ∷ []) end_operator
end_spelled p =
    let s = operator.sound (input p (end_byte ∷ [])) (end_operator, input (p + 1) []) (end_read p) in
    subst (λ (r : List ℕ). operator.spells p r end_operator) (sym (s.parts ∙ append-nil s.text)) s.spelled

end_role : role_of (opcode 0 end_byte) ≡ Ends
unfolding table
end_role = refl

-- ---- `closed_grammar` and `IsExpression` say the same

pub says : (p : ℕ) (text : List ℕ) (x : Closed (Placed Operator)) → closed_grammar.spells p text x → IsExpression p text x
says p text x s =
    let (ended, is, (t, u, joined, items, (last_place, last), stop)) = s in
    let n = nested_to_end (roles ended.items) (role_at ended.last) (sym (stops-roles ended.items ended.last at_start) ∙ stop) in
    let e : u ≡ end_byte ∷ [] = end_text (p + length t) u ended.last.value last n.1 in
    subst (λ (y : Closed (Placed Operator)). IsExpression p text y) (some_is (closed_of_ended ended) x is)
    (t, joined ∙ ap (λ (r : List ℕ). t ++ r) e, items, n.0, last_place)

pub said : (p : ℕ) (text : List ℕ) (x : Closed (Placed Operator)) → IsExpression p text x → closed_grammar.spells p text x
said p text x s =
    let (t, joined, items, nests, end_place) = s in
    let last : Placed Operator = record { place = p + length t; value = end_operator } in
    let stop : stops advance (at_start) (roles x.items) Ends ≡ true = stops_at_end (roles x.items) nests in
    let end : stops advance at_start (roles x.items) (role_of (opcode 0 end_byte)) ≡ true =
    ap (stops advance at_start (roles x.items)) end_role ∙ stop in (
      list_with_last x.items last,
      ap (λ (q : ℕ). Some (record { items = x.items; end = q })) (sym end_place),
      (t, end_byte ∷ [], joined, items, (refl, end_spelled (p + length t)), stops-roles x.items last at_start ∙ end),
    )

-- An expression: well-nested operators, each with its place, and the byte 0B of the last `end`, with its place.
abbrev pub expression : Grammar (Closed (Placed Operator))
expression = with_spelling closed_grammar IsExpression says said

-- An expression without the place of its `end`.
abbrev pub constant : Grammar (List (Placed Operator))
constant = map_value (λ x. x.items) expression
