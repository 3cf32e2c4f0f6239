-- The lengths of the shortest encodings of heap types, reference types and value types (section 5.3 of the standard).
use Rattle.std.specs.Prelude.{◌≡◌, ℕ, ℤ, List, [], ◌∷◌, ◌+◌, ◌<◌, ◌≤◌, ◌⊎◌, length, nat_lt, Bool, true, false, ◌&&◌, ◌||◌, ◌==◌, is_some, Option, Some, None, refl}
use Rattle.std.proofs.Common.{sym, ap, subst, ◌∙◌, arith, inl, inr, eqb, ltb}
use Rattle.std.proofs.lemmas.Bool.{and_parts, eqb-true, ltb-true, false_from_ne_true, ne_eqb, or_left, or_right, or_from}
use Rattle.wasmprinter_spec.specs.Grammar.{Grammar, byte, try_map, map_value, choose, some_is, ◌>>=◌, bind_some}
use Rattle.wasmprinter_spec.specs.Choices.{cond_cases}
use Rattle.wasmprinter_spec.specs.Leb.{IsSigned}
use Rattle.wasmprinter_spec.specs.Types.{HeapType, Exn, Array, Struct, I31, Eq, Any, Extern, Func, NoAny, NoExtern, NoFunc, NoExn, Index, RefType, ref_type, ValType, I32, I64, F32, F64, V128, Ref}
use Rattle.wasmprinter_spec.specs.Binary.{AreBytes}
use Rattle.wasmprinter_spec.specs.Binary.ValTypes.{lookup, number_type_of, abstract_heap_of, non_negative, signed_index, value_if_any, heap_type, ref_type_after, reference_type, val_type_after, val_type, begins_val_type}
use Rattle.wasmprinter_hidden.specs.Lengths.{heap_type_len, ref_type_parts_len, ref_type_len, val_type_len}
use Rattle.wasmprinter_hidden.proofs.Combinators.{Measured, same, Under, Either, HasWithin, Led, map_measured, try_map_measured, byte_measured, either_measured, covered_measured, same_measured, led_measured, after_parts, after_joined, choose_cases, choose_first, choose_second}
use Rattle.wasmprinter_hidden.proofs.Names.{signed_index_measured}

-- ---- Values of bytes

-- f is true of each row.
abbrev pub all_rows : {A : Type 0} → (ℕ → A → Bool) → List (ℕ × A) → Bool
all_rows f [] = true
all_rows f (row ∷ rows) = f row.0 row.1 && all_rows f rows

-- It is true of a value that is found, and of its byte.
pub found : {A : Type 0} (f : ℕ → A → Bool) (rows : List (ℕ × A)) (b : ℕ) (a : A) → all_rows f rows ≡ true → lookup rows b ≡ Some a → f b a ≡ true
found f [] b a all e = absurd cc
found {A = A} f (row ∷ rows) b a all e =
    let parts = and_parts (f row.0 row.1) (all_rows f rows) all in
    elim (cond_cases (eqb b row.0) (Some row.1) (lookup rows b) (Some a) e) [
      | inl (here, is) ↦
          let byte : b ≡ row.0 = eqb-true b row.0 here in
          ap (λ (c : ℕ). f c a) byte ∙ ap (λ (x : A). f row.0 x) (sym (some_is row.1 a is)) ∙ parts.0
      | inr (other, later) ↦ found f rows b a parts.1 later
    ]

-- The value, where there is one.
some_value : {A : Type 0} (o : Option A) → is_some o ≡ true → (a : A) × (o ≡ Some a)
some_value (Some a) e = (a, refl)
some_value None e = absurd cc

-- There is no value where the byte is none of those of the rows.
pub none_found : {A : Type 0} (f : ℕ → A → Bool) (rows : List (ℕ × A)) (b : ℕ) → all_rows f rows ≡ true → ((a : A) → f b a ≡ true → ⊥) →
    is_some (lookup rows b) ≡ false
none_found f rows b all other =
    false_from_ne_true (is_some (lookup rows b)) (λ e. let (a, is) = some_value (lookup rows b) e in other a (found f rows b a all is))

-- A value that the empty byte string encodes.
pub any_parts : {A : Type 0} (o : Option A) (p : ℕ) (t : List ℕ) (a : A) → (value_if_any o).spells p t a → (o ≡ Some a) × (t ≡ [])
any_parts (Some c) p t a s = (ap Some (sym s.1), s.0)
any_parts None p t a s = absurd s

-- The empty byte string encodes the value, if there is one.
pub any_joined : {A : Type 0} (o : Option A) (p : ℕ) (a : A) → o ≡ Some a → (value_if_any o).spells p [] a
any_joined (Some c) p a e = (refl, sym (some_is c a e))
any_joined None p a e = absurd cc

-- ---- Heap types

-- The bytes of the abstract heap types, as in `abstract_heap_of`.
abbrev heap_rows : List (ℕ × HeapType)
heap_rows =
    (0x69, Exn) ∷ (0x6a, Array) ∷ (0x6b, Struct) ∷ (0x6c, I31) ∷ (0x6d, Eq) ∷ (0x6e, Any)
    ∷ (0x6f, Extern) ∷ (0x70, Func) ∷ (0x71, NoAny) ∷ (0x72, NoExtern) ∷ (0x73, NoFunc) ∷ (0x74, NoExn) ∷ []

-- The byte is that of an abstract heap type, whose length is 1, and whose reference types have the lengths 1 and 2.
abbrev heap_row : ℕ → HeapType → Bool
heap_row b h = (nat_lt 0x68 b && nat_lt b 0x75) && ((heap_type_len h == 1) && (ref_type_parts_len true h == 1))

record IsHeapByte (b : ℕ) (h : HeapType) : Type 0 where
  pub from : 0x68 < b
  pub below : b < 0x75
  pub len : heap_type_len h ≡ 1
  pub ref_len : ref_type_parts_len true h ≡ 1

-- What `heap_row` says.
heap_row_parts : (b : ℕ) (h : HeapType) → heap_row b h ≡ true → IsHeapByte b h
heap_row_parts b h e =
    let (bounds, lens) = and_parts (ltb 0x68 b && ltb b 0x75) (eqb (heap_type_len h) 1 && eqb (ref_type_parts_len true h) 1) e in
    let (from, below) = and_parts (ltb 0x68 b) (ltb b 0x75) bounds in
    let (len, ref_len) = and_parts (eqb (heap_type_len h) 1) (eqb (ref_type_parts_len true h) 1) lens in
    record { from = ltb-true _ _ from; below = ltb-true _ _ below; len = eqb-true _ _ len; ref_len = eqb-true _ _ ref_len }

-- The byte of an abstract heap type.
heap_byte : (b : ℕ) (h : HeapType) → abstract_heap_of b ≡ Some h → IsHeapByte b h
heap_byte b h e = heap_row_parts b h (found heap_row heap_rows b h refl e)

-- Other bytes are those of no abstract heap type.
no_heap_byte : (b : ℕ) → (b < 0x69) ⊎ (0x74 < b) → is_some (abstract_heap_of b) ≡ false
no_heap_byte b out =
    none_found heap_row heap_rows b refl (λ h e.
    let is = heap_row_parts b h e in
    elim out [ inl low ↦ omega (arith, low, is.from) | inr high ↦ omega (arith, high, is.below) ])

-- The first byte of a type index is that of no type.
pub index_byte : (b : ℕ) (bs : List ℕ) (z : ℤ) (n : ℕ) → non_negative z ≡ Some n → IsSigned 33 (b ∷ bs) z → (b < 64) ⊎ (128 ≤ b)
index_byte b bs z n e s =
    elim s [
      | inl (below, fits, last, is) ↦ inl below
      | inr (inl (from, below, fits, last, is)) ↦ let none : ◌≡◌ {A = Option ℕ} None (Some n) = ap non_negative (sym is) ∙ e in absurd cc
      | inr (inr (above, room, high, is, spelled)) ↦ inr above
    ]

-- A heap type that is abstract.
abbrev Abstract : ℕ → List ℕ → HeapType → Type 0
Abstract p t h = (try_map abstract_heap_of byte).spells p t h

-- A heap type that is a type index.
abbrev Indexed : ℕ → List ℕ → HeapType → Type 0
Indexed p t h = (map_value Index signed_index).spells p t h

-- The encodings of heap types are these.
heap_cases : (p : ℕ) (t : List ℕ) (h : HeapType) → heap_type.spells p t h → Either Abstract Indexed p t h
heap_cases p [] h s = absurd s
heap_cases p (b ∷ bs) h s =
    elim (choose_cases (is_some (abstract_heap_of b)) (try_map abstract_heap_of byte) (map_value Index signed_index) p (b ∷ bs) h s) [
      | inl x ↦ inl x.1
      | inr x ↦ inr x.1
    ]

abstract_heap : (p : ℕ) (t : List ℕ) (h : HeapType) → Abstract p t h → heap_type.spells p t h
abstract_heap p t h (b, is, text) =
    subst (λ (x : List ℕ). heap_type.spells p x h) (sym text)
    (choose_first (is_some (abstract_heap_of b)) (try_map abstract_heap_of byte) (map_value Index signed_index) p (b ∷ []) h
    (ap is_some is) (b, is, refl))

indexed_heap : (p : ℕ) (t : List ℕ) (h : HeapType) → Indexed p t h → heap_type.spells p t h
indexed_heap p [] h (n, is, (z, positive, s)) = absurd s
indexed_heap p (b ∷ bs) h (n, is, (z, positive, s)) =
    let out : (b < 0x69) ⊎ (0x74 < b) =
    elim (index_byte b bs z n positive s) [ inl low ↦ inl (omega (arith, low)) | inr high ↦ inr (omega (arith, high)) ] in
    choose_second (is_some (abstract_heap_of b)) (try_map abstract_heap_of byte) (map_value Index signed_index) p (b ∷ bs) h
    (no_heap_byte b out) (n, is, (z, positive, s))

abstract_measured : Measured same Abstract heap_type_len
abstract_measured = try_map_measured abstract_heap_of (λ b h e. (heap_byte b h e).len) byte_measured

indexed_measured : Measured same Indexed heap_type_len
indexed_measured = map_measured Index (λ n. refl) (λ m n e. ap Index e) signed_index_measured

pub heap_measured : Measured same heap_type.spells heap_type_len
heap_measured =
    same_measured (λ p t h s. elim s [ inl x ↦ abstract_heap p t h x | inr x ↦ indexed_heap p t h x ]) heap_cases
    (either_measured abstract_measured indexed_measured)

-- ---- Reference types

-- A reference type that is not nullable: the byte 64, and a heap type.
abbrev NotNull : ℕ → List ℕ → RefType → Type 0
NotNull p t r = Under (λ h. Some (ref_type false h)) (Led 0x64 heap_type.spells) p t r

-- A nullable reference type: the byte 63, and a heap type.
abbrev Nullable : ℕ → List ℕ → RefType → Type 0
Nullable p t r = Under (λ h. Some (ref_type true h)) (Led 0x63 heap_type.spells) p t r

-- A nullable reference type with a type index: the byte 63, and the index.
abbrev NullableIndex : ℕ → List ℕ → RefType → Type 0
NullableIndex p t r = Under (λ n. Some (ref_type true (Index n))) (Led 0x63 signed_index.spells) p t r

-- The nullable reference type of the byte.
abbrev nullable_of : ℕ → Option RefType
nullable_of b = abstract_heap_of b >>= λ h. Some (ref_type true h)

-- A nullable reference type that is one byte.
abbrev NullableByte : ℕ → List ℕ → RefType → Type 0
NullableByte p t r = (try_map nullable_of byte).spells p t r

-- The encodings of reference types are these.
ref_cases : (p : ℕ) (t : List ℕ) (r : RefType) → reference_type.spells p t r → Either NotNull (Either Nullable NullableByte) p t r
ref_cases p t r s =
    let (b, u, joined, others) = after_parts ref_type_after p t r s in
    let rest : Grammar RefType =
    choose (b == 0x63) (map_value (ref_type true) heap_type) (map_value (ref_type true) (value_if_any (abstract_heap_of b))) in
    elim (choose_cases (b == 0x64) (map_value (ref_type false) heap_type) rest (p + 1) u r others) [
      | inl (is, (h, made, spelled)) ↦
          inl (h, made, (u, joined ∙ ap (λ (c : ℕ). c ∷ u) (eqb-true b 0x64 is), spelled))
      | inr (other, x) ↦
          elim (choose_cases (b == 0x63) (map_value (ref_type true) heap_type) (map_value (ref_type true) (value_if_any (abstract_heap_of b))) (p + 1) u r x) [
            | inl (is, (h, made, spelled)) ↦
                inr (inl (h, made, (u, joined ∙ ap (λ (c : ℕ). c ∷ u) (eqb-true b 0x63 is), spelled)))
            | inr (none, (h, made, spelled)) ↦
                let (value, empty) = any_parts (abstract_heap_of b) (p + 1) u h spelled in
                inr (inr (b, ap (λ (o : Option HeapType). o >>= λ i. Some (ref_type true i)) value ∙ made, joined ∙ ap (λ (x : List ℕ). b ∷ x) empty))
          ]
    ]

-- The encodings that have no shorter one.
abbrev ShortRef : ℕ → List ℕ → RefType → Type 0
ShortRef p t r = Either NotNull (Either NullableIndex NullableByte) p t r

-- A reference type that is not nullable has one byte more than its heap type.
not_null_len : (h : HeapType) → ref_type_len (ref_type false h) ≡ 1 + heap_type_len h
not_null_len (Index n) = refl
not_null_len _ = refl

-- The heap type in the nullable reference type of a byte.
nullable_byte : (b : ℕ) (r : RefType) → nullable_of b ≡ Some r → (h : HeapType) × (abstract_heap_of b ≡ Some h) × (ref_type true h ≡ r)
nullable_byte b r e =
    let (h, is, made) = bind_some (abstract_heap_of b) (λ h. Some (ref_type true h)) r e in (h, is, some_is (ref_type true h) r made)

-- The length of a nullable reference type that is one byte.
nullable_byte_len : (b : ℕ) (r : RefType) → nullable_of b ≡ Some r → ref_type_len r ≡ 1
nullable_byte_len b r e =
    let (h, is, made) = nullable_byte b r e in ap ref_type_len (sym made) ∙ (heap_byte b h is).ref_len

short_ref_measured : Measured same ShortRef ref_type_len
short_ref_measured =
    either_measured (map_measured (ref_type false) not_null_len (λ g h e. ap (ref_type false) e) (led_measured 0x64 heap_measured))
    (either_measured
    (map_measured (λ n. ref_type true (Index n)) (λ n. refl) (λ m n e. ap (λ (k : ℕ). ref_type true (Index k)) e) (led_measured 0x63 signed_index_measured))
    (try_map_measured nullable_of nullable_byte_len byte_measured))

-- These encodings are encodings of reference types.
not_null_ref : (p : ℕ) (t : List ℕ) (r : RefType) → NotNull p t r → reference_type.spells p t r
not_null_ref p t r (h, made, (u, joined, spelled)) =
    subst (λ (x : List ℕ). reference_type.spells p x r) (sym joined) (after_joined ref_type_after p 0x64 u r (h, made, spelled))

nullable_ref : (p : ℕ) (t : List ℕ) (r : RefType) → Nullable p t r → reference_type.spells p t r
nullable_ref p t r (h, made, (u, joined, spelled)) =
    subst (λ (x : List ℕ). reference_type.spells p x r) (sym joined) (after_joined ref_type_after p 0x63 u r (h, made, spelled))

nullable_index : (p : ℕ) (t : List ℕ) (r : RefType) → NullableIndex p t r → Nullable p t r
nullable_index p t r (n, made, (u, joined, spelled)) = (Index n, made, (u, joined, indexed_heap (p + 1) u (Index n) (n, refl, spelled)))

nullable_byte_ref : (p : ℕ) (t : List ℕ) (r : RefType) → NullableByte p t r → reference_type.spells p t r
nullable_byte_ref p t r (b, value, text) =
    let (h, is, made) = nullable_byte b r value in
    let row = heap_byte b h is in
    let last : (map_value (ref_type true) (value_if_any (abstract_heap_of b))).spells (p + 1) [] r =
    (h, ap Some made, any_joined (abstract_heap_of b) (p + 1) h is) in
    let after : (ref_type_after b).spells (p + 1) [] r =
    choose_second (b == 0x64) _ _ (p + 1) [] r (ne_eqb b 0x64 (λ z. omega (arith, z, row.from)))
    (choose_second (b == 0x63) _ _ (p + 1) [] r (ne_eqb b 0x63 (λ z. omega (arith, z, row.from))) last) in
    subst (λ (x : List ℕ). reference_type.spells p x r) (sym text) (after_joined ref_type_after p b [] r after)

-- The byte 63 before an abstract heap type is not needed.
nullable_shorter : (p : ℕ) (t : List ℕ) (r : RefType) → AreBytes t → Nullable p t r → HasWithin ShortRef r (length t)
nullable_shorter p t r are (h, made, (u, joined, spelled)) =
    elim (heap_cases (p + 1) u h spelled) [
      | inl (b, is, text) ↦
          let all : AreBytes (0x63 ∷ u) = subst AreBytes joined are in
          let value : nullable_of b ≡ Some r = ap (λ (o : Option HeapType). o >>= λ i. Some (ref_type true i)) is ∙ made in
          (p, u, all.1, inr (inr (b, value, text)), omega (arith, ap length joined))
      | inr (n, index, spelled) ↦
          let value : ◌≡◌ {A = Option RefType} (Some (ref_type true (Index n))) (Some r) =
          ap (λ (i : HeapType). Some (ref_type true i)) (some_is (Index n) h index) ∙ made in
          (p, t, are, inr (inl (n, value, (u, joined, spelled))), omega arith)
    ]

pub ref_measured : Measured same reference_type.spells ref_type_len
ref_measured =
    covered_measured
    (λ p t r s. elim s [
      | inl x ↦ not_null_ref p t r x
      | inr (inl x) ↦ nullable_ref p t r (nullable_index p t r x)
      | inr (inr x) ↦ nullable_byte_ref p t r x
    ])
    (λ p t r are s. elim (ref_cases p t r s) [
      | inl x ↦ (p, t, are, inl x, omega arith)
      | inr (inl x) ↦ nullable_shorter p t r are x
      | inr (inr x) ↦ (p, t, are, inr (inr x), omega arith)
    ]) short_ref_measured

-- The first byte of a reference type.
pub ref_first : (b p : ℕ) (u : List ℕ) (r : RefType) → (ref_type_after b).spells p u r → (0x62 < b) × (b < 0x75)
ref_first b p u r s =
    elim (choose_cases (b == 0x64) _ _ p u r s) [
      | inl (is, x) ↦ let e : b ≡ 0x64 = eqb-true b 0x64 is in (omega (arith, e), omega (arith, e))
      | inr (other, x) ↦
          elim (choose_cases (b == 0x63) _ _ p u r x) [
            | inl (is, y) ↦ let e : b ≡ 0x63 = eqb-true b 0x63 is in (omega (arith, e), omega (arith, e))
            | inr (none, (h, made, spelled)) ↦
                let row = heap_byte b h (any_parts (abstract_heap_of b) p u h spelled).0 in
                (omega (arith, row.from), row.below)
          ]
    ]

-- ---- Value types

-- The bytes of the number types and of the vector type, as in `number_type_of`.
abbrev number_rows : List (ℕ × ValType)
number_rows = (0x7f, I32) ∷ (0x7e, I64) ∷ (0x7d, F32) ∷ (0x7c, F64) ∷ (0x7b, V128) ∷ []

-- The byte is that of a type whose length is 1.
abbrev number_row : ℕ → ValType → Bool
number_row b t = (nat_lt 0x7a b && nat_lt b 0x80) && (val_type_len t == 1)

record IsNumberByte (b : ℕ) (t : ValType) : Type 0 where
  pub from : 0x7a < b
  pub below : b < 0x80
  pub len : val_type_len t ≡ 1

-- What `number_row` says.
number_row_parts : (b : ℕ) (t : ValType) → number_row b t ≡ true → IsNumberByte b t
number_row_parts b t e =
    let (bounds, len) = and_parts (ltb 0x7a b && ltb b 0x80) (eqb (val_type_len t) 1) e in
    let (from, below) = and_parts (ltb 0x7a b) (ltb b 0x80) bounds in
    record { from = ltb-true _ _ from; below = ltb-true _ _ below; len = eqb-true _ _ len }

-- The byte of a number type or of the vector type.
number_byte : (b : ℕ) (t : ValType) → number_type_of b ≡ Some t → IsNumberByte b t
number_byte b t e = number_row_parts b t (found number_row number_rows b t refl e)

-- Other bytes are those of no such type.
no_number_byte : (b : ℕ) → (b < 0x7b) ⊎ (0x7f < b) → is_some (number_type_of b) ≡ false
no_number_byte b out =
    none_found number_row number_rows b refl (λ t e.
    let is = number_row_parts b t e in
    elim out [ inl low ↦ omega (arith, low, is.from) | inr high ↦ omega (arith, high, is.below) ])

-- A value type that is one byte, of no reference type.
abbrev NumberType : ℕ → List ℕ → ValType → Type 0
NumberType p t v = (try_map number_type_of byte).spells p t v

-- A value type that is a reference type.
abbrev Reference : ℕ → List ℕ → ValType → Type 0
Reference p t v = (map_value Ref reference_type).spells p t v

-- A value type after its first byte b.
val_after_cases : (b p : ℕ) (u : List ℕ) (v : ValType) → (val_type_after b).spells p u v →
    ((number_type_of b ≡ Some v) × (u ≡ [])) ⊎ ((r : RefType) × (Ref r ≡ v) × (ref_type_after b).spells p u r)
val_after_cases b p u v s =
    elim (choose_cases (is_some (number_type_of b)) (value_if_any (number_type_of b)) (map_value Ref (ref_type_after b)) p u v s) [
      | inl x ↦ inl (any_parts (number_type_of b) p u v x.1)
      | inr (other, (r, made, spelled)) ↦ inr (r, some_is (Ref r) v made, spelled)
    ]

-- The encodings of value types are these.
val_cases : (p : ℕ) (t : List ℕ) (v : ValType) → val_type.spells p t v → Either NumberType Reference p t v
val_cases p t v s =
    let (b, u, joined, others) = after_parts val_type_after p t v s in
    elim (val_after_cases b (p + 1) u v others) [
      | inl (is, empty) ↦ inl (b, is, joined ∙ ap (λ (x : List ℕ). b ∷ x) empty)
      | inr (r, made, spelled) ↦
          inr (r, ap Some made, subst (λ (x : List ℕ). reference_type.spells p x r) (sym joined) (after_joined ref_type_after p b u r spelled))
    ]

number_val : (p : ℕ) (t : List ℕ) (v : ValType) → NumberType p t v → val_type.spells p t v
number_val p t v (b, is, text) =
    subst (λ (x : List ℕ). val_type.spells p x v) (sym text)
    (after_joined val_type_after p b [] v
    (choose_first (is_some (number_type_of b)) _ _ (p + 1) [] v (ap is_some is) (any_joined (number_type_of b) (p + 1) v is)))

reference_val : (p : ℕ) (t : List ℕ) (v : ValType) → Reference p t v → val_type.spells p t v
reference_val p t v (r, made, spelled) =
    let (b, u, joined, others) = after_parts ref_type_after p t r spelled in
    let (from, below) = ref_first b (p + 1) u r others in
    subst (λ (x : List ℕ). val_type.spells p x v) (sym joined)
    (after_joined val_type_after p b u v
    (choose_second (is_some (number_type_of b)) _ _ (p + 1) u v (no_number_byte b (inl (omega (arith, below)))) (r, made, others)))

pub val_measured : Measured same val_type.spells val_type_len
val_measured =
    same_measured (λ p t v s. elim s [ inl x ↦ number_val p t v x | inr x ↦ reference_val p t v x ]) val_cases
    (either_measured (try_map_measured number_type_of (λ b v e. (number_byte b v e).len) byte_measured)
    (map_measured Ref (λ r. refl) (λ q r e. ap Ref e) ref_measured))

-- The first byte of a value type.
pub val_first : (b p : ℕ) (u : List ℕ) (v : ValType) → (val_type_after b).spells p u v → (0x62 < b) × ((b < 0x75) ⊎ (0x7a < b))
val_first b p u v s =
    elim (val_after_cases b p u v s) [
      | inl (is, empty) ↦ let row = number_byte b v is in (omega (arith, row.from), inr row.from)
      | inr (r, made, spelled) ↦ let (from, below) = ref_first b p u r spelled in (from, inl below)
    ]

-- A reference type begins with its first byte.
ref_begins : (b p : ℕ) (u : List ℕ) (r : RefType) → (ref_type_after b).spells p u r →
    ((b == 0x64) || ((b == 0x63) || is_some (abstract_heap_of b))) ≡ true
ref_begins b p u r s =
    elim (choose_cases (b == 0x64) _ _ p u r s) [
      | inl (is, x) ↦ or_left (b == 0x64) _ is
      | inr (other, x) ↦
          or_right (b == 0x64) _ (elim (choose_cases (b == 0x63) _ _ p u r x) [
            | inl (is, y) ↦ or_left (b == 0x63) _ is
            | inr (none, (h, made, spelled)) ↦
                or_right (b == 0x63) _ (ap is_some (any_parts (abstract_heap_of b) p u h spelled).0)
          ])
    ]

-- A value type begins with its first byte.
pub val_begins : (b p : ℕ) (u : List ℕ) (v : ValType) → (val_type_after b).spells p u v → begins_val_type b ≡ true
val_begins b p u v s =
    elim (val_after_cases b p u v s) [
      | inl (is, empty) ↦ or_left (is_some (number_type_of b)) _ (ap is_some is)
      | inr (r, made, spelled) ↦ or_right (is_some (number_type_of b)) _ (ref_begins b p u r spelled)
    ]

-- No value type begins with the first byte of a type index.
pub index_begins_none : (b : ℕ) → (b < 64) ⊎ (128 ≤ b) → begins_val_type b ≡ false
index_begins_none b out =
    let number : (b < 0x7b) ⊎ (0x7f < b) = elim out [ inl low ↦ inl (omega (arith, low)) | inr high ↦ inr high ] in
    let heap : (b < 0x69) ⊎ (0x74 < b) = elim out [ inl low ↦ inl (omega (arith, low)) | inr high ↦ inr (omega (arith, high)) ] in
    let no_64 : (b == 0x64) ≡ false =
    ne_eqb b 0x64 (λ z. elim out [ inl low ↦ omega (arith, low, z) | inr high ↦ omega (arith, high, z) ]) in
    let no_63 : (b == 0x63) ≡ false =
    ne_eqb b 0x63 (λ z. elim out [ inl low ↦ omega (arith, low, z) | inr high ↦ omega (arith, high, z) ]) in
    or_from (is_some (number_type_of b)) _ (no_number_byte b number) (or_from (b == 0x64) _ no_64 (or_from (b == 0x63) _ no_63 (no_heap_byte b heap)))
