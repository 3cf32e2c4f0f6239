-- The lengths of the shortest encodings of composite types, subtypes and groups (section 5.3 of the standard).
use Rattle.std.specs.Prelude.{◌≡◌, ℕ, List, [], ◌∷◌, ◌+◌, ◌<◌, ◌≤◌, ◌⊎◌, length, nat_lt, Bool, true, false, ◌&&◌, ◌==◌, is_some, Option, Some, None, refl}
use Rattle.std.proofs.Common.{sym, ap, subst, ◌∙◌, arith, inl, inr, eqb, ltb}
use Rattle.std.proofs.lemmas.Bool.{and_parts, eqb-true, ltb-true, ne_eqb}
use Rattle.wasmprinter_spec.specs.Grammar.{byte, seq, try_map, map_value, fail, some_is}
use Rattle.wasmprinter_spec.specs.Name.{u32, vec}
use Rattle.wasmprinter_spec.specs.Types.{ValType, StorageType, Val, I8, I16, field_type, FuncType, CompositeType, FuncComposite, ArrayComposite, StructComposite, SubType, sub_type, final_type}
use Rattle.wasmprinter_spec.specs.Placed.{TypeGroup, type_group}
use Rattle.wasmprinter_spec.specs.Binary.{AreBytes}
use Rattle.wasmprinter_spec.specs.Binary.ValTypes.{lookup, value_if_any, val_type, val_type_after}
use Rattle.wasmprinter_spec.specs.Binary.Types.{packed_type_of, storage_type_after, storage_type, mutability, field, signature, composite_after, composite, sub_type_parts, sub_type_after, subtype, group_after, group}
use Rattle.wasmprinter_hidden.specs.Lengths.{unsigned_len, list_len, val_type_len, storage_type_len, field_type_len, composite_type_len, sub_type_len, group_len}
use Rattle.wasmprinter_hidden.proofs.Combinators.{Measured, same, one, Under, Either, HasWithin, Led, split_bytes, joined_length, map_measured, try_map_measured, byte_measured, byte_map_measured, then_measured, list_measured, choose_measured, fail_measured, either_measured, covered_measured, same_measured, led_measured, after_parts, after_joined, after_measured, choose_cases, choose_first, choose_second}
use Rattle.wasmprinter_hidden.proofs.Names.{u32_measured}
use Rattle.wasmprinter_hidden.proofs.ValTypes.{found, none_found, any_parts, any_joined, val_measured, val_first}

-- ---- Storage types and fields

-- The bytes of the packed types, as in `packed_type_of`.
abbrev packed_rows : List (ℕ × StorageType)
packed_rows = (0x78, I8) ∷ (0x77, I16) ∷ []

-- The byte is that of a type whose length is 1.
abbrev packed_row : ℕ → StorageType → Bool
packed_row b t = (nat_lt 0x76 b && nat_lt b 0x79) && (storage_type_len t == 1)

-- What `packed_row` says.
packed_row_parts : (b : ℕ) (t : StorageType) → packed_row b t ≡ true → (0x76 < b) × (b < 0x79) × (storage_type_len t ≡ 1)
packed_row_parts b t e =
    let (bounds, len) = and_parts (ltb 0x76 b && ltb b 0x79) (eqb (storage_type_len t) 1) e in
    let (from, below) = and_parts (ltb 0x76 b) (ltb b 0x79) bounds in
    (ltb-true _ _ from, ltb-true _ _ below, eqb-true _ _ len)

-- The byte of a packed type.
packed_byte : (b : ℕ) (t : StorageType) → packed_type_of b ≡ Some t → (0x76 < b) × (b < 0x79) × (storage_type_len t ≡ 1)
packed_byte b t e = packed_row_parts b t (found packed_row packed_rows b t refl e)

-- Other bytes are those of no packed type.
no_packed_byte : (b : ℕ) → (b < 0x75) ⊎ (0x7a < b) → is_some (packed_type_of b) ≡ false
no_packed_byte b out =
    none_found packed_row packed_rows b refl (λ t e.
    let (from, below, len) = packed_row_parts b t e in
    elim out [ inl low ↦ omega (arith, low, from) | inr high ↦ omega (arith, high, below) ])

-- A storage type that is a packed type.
abbrev Packed : ℕ → List ℕ → StorageType → Type 0
Packed p t s = (try_map packed_type_of byte).spells p t s

-- A storage type that is a value type.
abbrev Unpacked : ℕ → List ℕ → StorageType → Type 0
Unpacked p t s = (map_value Val val_type).spells p t s

-- The encodings of storage types are these.
storage_cases : (p : ℕ) (t : List ℕ) (a : StorageType) → storage_type.spells p t a → Either Packed Unpacked p t a
storage_cases p t a s =
    let (b, u, joined, others) = after_parts storage_type_after p t a s in
    elim (choose_cases (is_some (packed_type_of b)) (value_if_any (packed_type_of b)) (map_value Val (val_type_after b)) (p + 1) u a others) [
      | inl (is, x) ↦
          let (value, empty) = any_parts (packed_type_of b) (p + 1) u a x in
          inl (b, value, joined ∙ ap (λ (x : List ℕ). b ∷ x) empty)
      | inr (other, (v, made, spelled)) ↦
          inr (v, made, subst (λ (x : List ℕ). val_type.spells p x v) (sym joined) (after_joined val_type_after p b u v spelled))
    ]

packed_storage : (p : ℕ) (t : List ℕ) (a : StorageType) → Packed p t a → storage_type.spells p t a
packed_storage p t a (b, is, text) =
    subst (λ (x : List ℕ). storage_type.spells p x a) (sym text)
    (after_joined storage_type_after p b [] a
    (choose_first (is_some (packed_type_of b)) _ _ (p + 1) [] a (ap is_some is) (any_joined (packed_type_of b) (p + 1) a is)))

unpacked_storage : (p : ℕ) (t : List ℕ) (a : StorageType) → Unpacked p t a → storage_type.spells p t a
unpacked_storage p t a (v, made, spelled) =
    let (b, u, joined, others) = after_parts val_type_after p t v spelled in
    let (from, out) = val_first b (p + 1) u v others in
    subst (λ (x : List ℕ). storage_type.spells p x a) (sym joined)
    (after_joined storage_type_after p b u a
    (choose_second (is_some (packed_type_of b)) _ _ (p + 1) u a (no_packed_byte b out) (v, made, others)))

storage_measured : Measured same storage_type.spells storage_type_len
storage_measured =
    same_measured (λ p t a s. elim s [ inl x ↦ packed_storage p t a x | inr x ↦ unpacked_storage p t a x ]) storage_cases
    (either_measured (try_map_measured packed_type_of (λ b t e. (packed_byte b t e).2) byte_measured)
    (map_measured Val (λ v. refl) (λ v w e. ap Val e) val_measured))

pub mutability_measured : Measured same mutability.spells one
mutability_measured = byte_map_measured (λ b. lookup ((0x00, false) ∷ (0x01, true) ∷ []) b)

field_measured : Measured same field.spells field_type_len
field_measured =
    map_measured (λ (x : StorageType × Bool). field_type x.1 x.0) (λ x. refl) (λ x y e. ap (λ (z : StorageType × Bool). field_type z.1 z.0) e)
    (then_measured storage_measured mutability_measured)

-- ---- Composite types

-- The function type with these parameters and results.
abbrev func_type_of_lists : List ValType × List ValType → FuncType
func_type_of_lists x = record { params = x.0; results = x.1 }

signature_measured : Measured same signature.spells (λ t. list_len val_type_len t.params + list_len val_type_len t.results)
signature_measured =
    map_measured func_type_of_lists (λ x. refl) (λ x y e. ap func_type_of_lists e)
    (then_measured (list_measured val_type val_measured) (list_measured val_type val_measured))

-- A composite type has at least the byte of its kind.
composite_some : (t : CompositeType) → 1 ≤ composite_type_len t
composite_some (FuncComposite t) = omega arith
composite_some (ArrayComposite t) = omega arith
composite_some (StructComposite ts) = omega arith

composite_measured : Measured same composite.spells composite_type_len
composite_measured =
    after_measured composite_after composite_some (λ b.
    choose_measured (b == 0x5e) _ _ (map_measured ArrayComposite (λ t. omega arith) (λ s t e. ap ArrayComposite e) field_measured)
    (choose_measured (b == 0x5f) _ _
    (map_measured StructComposite (λ ts. omega arith) (λ ss ts e. ap StructComposite e) (list_measured field field_measured))
    (choose_measured (b == 0x60) _ _ (map_measured FuncComposite (λ t. omega arith) (λ s t e. ap FuncComposite e) signature_measured) fail_measured)))

-- The first byte of a composite type.
composite_first : (b p : ℕ) (u : List ℕ) (c : CompositeType) → (composite_after b).spells p u c → 0x5d < b
composite_first b p u c s =
    elim (choose_cases (b == 0x5e) _ _ p u c s) [
      | inl (is, x) ↦ omega (arith, eqb-true b 0x5e is)
      | inr (other, x) ↦
          elim (choose_cases (b == 0x5f) _ _ p u c x) [
            | inl (is, y) ↦ omega (arith, eqb-true b 0x5f is)
            | inr (another, y) ↦
                elim (choose_cases (b == 0x60) (map_value FuncComposite signature) fail p u c y) [
                  | inl (is, z) ↦ omega (arith, eqb-true b 0x60 is)
                  | inr (none, z) ↦ absurd z
                ]
          ]
    ]

-- ---- Subtypes

-- Supertypes and a composite type.
abbrev Parts : ℕ → List ℕ → List ℕ × CompositeType → Type 0
Parts p t x = (seq (vec u32) (λ _. composite)).spells p t x

-- The length of supertypes and a composite type.
abbrev parts_len : List ℕ × CompositeType → ℕ
parts_len x = list_len unsigned_len x.0 + composite_type_len x.1

parts_measured : Measured same Parts parts_len
parts_measured = then_measured (list_measured u32 u32_measured) composite_measured

-- A composite type by itself.
abbrev Alone : ℕ → List ℕ → SubType → Type 0
Alone p t a = (map_value final_type composite).spells p t a

-- A subtype that is not final.
abbrev Open : ℕ → List ℕ → SubType → Type 0
Open p t a = Under (λ x. Some (sub_type false x.0 x.1)) (Led 0x50 Parts) p t a

-- A final subtype.
abbrev Final : ℕ → List ℕ → SubType → Type 0
Final p t a = Under (λ x. Some (sub_type true x.0 x.1)) (Led 0x4f Parts) p t a

-- The final subtype with these supertypes, if there is one.
abbrev with_supertypes : List ℕ → CompositeType → Option SubType
with_supertypes [] c = None
with_supertypes (x ∷ xs) c = Some (sub_type true (x ∷ xs) c)

-- A final subtype with supertypes.
abbrev Derived : ℕ → List ℕ → SubType → Type 0
Derived p t a = Under (λ x. with_supertypes x.0 x.1) (Led 0x4f Parts) p t a

-- The encodings of subtypes that have no shorter one of another form.
abbrev ShortSubType : ℕ → List ℕ → SubType → Type 0
ShortSubType p t a = Either Alone (Either Open Derived) p t a

-- What `with_supertypes` says.
derived_parts : (xs : List ℕ) (c : CompositeType) (t : SubType) → with_supertypes xs c ≡ Some t →
    (sub_type true xs c ≡ t) × (sub_type_len t ≡ 1 + parts_len (xs, c))
derived_parts [] c t e = absurd cc
derived_parts (x ∷ xs) c t e =
    let is : sub_type true (x ∷ xs) c ≡ t = some_is (sub_type true (x ∷ xs) c) t e in
    let size : sub_type_len (sub_type true (x ∷ xs) c) ≡ 1 + parts_len (x ∷ xs, c) = omega arith in
    (is, ap sub_type_len (sym is) ∙ size)

short_sub_type_measured : Measured same ShortSubType sub_type_len
short_sub_type_measured =
    either_measured (map_measured final_type (λ c. refl) (λ c d e. ap final_type e) composite_measured)
    (either_measured
    (map_measured (λ (x : List ℕ × CompositeType). sub_type false x.0 x.1) (λ x. omega arith)
    (λ x y e. ap (λ (z : List ℕ × CompositeType). sub_type false z.0 z.1) e) (led_measured 0x50 parts_measured))
    (try_map_measured (λ (x : List ℕ × CompositeType). with_supertypes x.0 x.1) (λ x t e. (derived_parts x.0 x.1 t e).1)
    (led_measured 0x4f parts_measured)))

-- The encodings of subtypes are these.
sub_type_cases : (p : ℕ) (t : List ℕ) (a : SubType) → subtype.spells p t a → Either Alone (Either Open Final) p t a
sub_type_cases p t a s =
    let (b, u, joined, others) = after_parts sub_type_after p t a s in
    elim (choose_cases (b == 0x50) _ _ (p + 1) u a others) [
      | inl (is, (x, made, spelled)) ↦ inr (inl (x, made, (u, joined ∙ ap (λ (c : ℕ). c ∷ u) (eqb-true b 0x50 is), spelled)))
      | inr (other, y) ↦
          elim (choose_cases (b == 0x4f) (sub_type_parts true) (map_value final_type (composite_after b)) (p + 1) u a y) [
            | inl (is, (x, made, spelled)) ↦ inr (inr (x, made, (u, joined ∙ ap (λ (c : ℕ). c ∷ u) (eqb-true b 0x4f is), spelled)))
            | inr (none, (c, made, spelled)) ↦
                inl (c, made, subst (λ (x : List ℕ). composite.spells p x c) (sym joined) (after_joined composite_after p b u c spelled))
          ]
    ]

-- These encodings are encodings of subtypes.
alone_sub_type : (p : ℕ) (t : List ℕ) (a : SubType) → Alone p t a → subtype.spells p t a
alone_sub_type p t a (c, made, spelled) =
    let (b, u, joined, others) = after_parts composite_after p t c spelled in
    let from : 0x5d < b = composite_first b (p + 1) u c others in
    subst (λ (x : List ℕ). subtype.spells p x a) (sym joined)
    (after_joined sub_type_after p b u a
    (choose_second (b == 0x50) _ _ (p + 1) u a (ne_eqb b 0x50 (λ z. omega (arith, z, from)))
    (choose_second (b == 0x4f) _ _ (p + 1) u a (ne_eqb b 0x4f (λ z. omega (arith, z, from))) (c, made, others))))

open_sub_type : (p : ℕ) (t : List ℕ) (a : SubType) → Open p t a → subtype.spells p t a
open_sub_type p t a (x, made, (u, joined, spelled)) =
    subst (λ (y : List ℕ). subtype.spells p y a) (sym joined) (after_joined sub_type_after p 0x50 u a (x, made, spelled))

derived_sub_type : (p : ℕ) (t : List ℕ) (a : SubType) → Derived p t a → subtype.spells p t a
derived_sub_type p t a (x, made, (u, joined, spelled)) =
    let is : ◌≡◌ {A = Option SubType} (Some (sub_type true x.0 x.1)) (Some a) = ap Some (derived_parts x.0 x.1 a made).0 in
    subst (λ (y : List ℕ). subtype.spells p y a) (sym joined) (after_joined sub_type_after p 0x4f u a (x, is, spelled))

-- A final subtype without supertypes has a shorter encoding: its composite type by itself.
final_shorter : (p : ℕ) (t u : List ℕ) (a : SubType) (xs : List ℕ) (c : CompositeType) → AreBytes t → sub_type true xs c ≡ a → t ≡ 0x4f ∷ u →
    Parts (p + 1) u (xs, c) → HasWithin ShortSubType a (length t)
final_shorter p t u a [] c are made joined (k, v, parted, supers, spelled) =
    let all : AreBytes (0x4f ∷ u) = subst AreBytes joined are in
    let parts = split_bytes u k v parted all.1 in
    (p + 1 + length k, v, parts.1, inl (c, ap Some made, spelled), omega (arith, ap length joined, joined_length u k v parted))
final_shorter p t u a (x ∷ xs) c are made joined s = (p, t, are, inr (inr ((x ∷ xs, c), ap Some made, (u, joined, s))), omega arith)

sub_type_measured : Measured same subtype.spells sub_type_len
sub_type_measured =
    covered_measured
    (λ p t a s. elim s [
      | inl x ↦ alone_sub_type p t a x
      | inr (inl x) ↦ open_sub_type p t a x
      | inr (inr x) ↦ derived_sub_type p t a x
    ])
    (λ p t a are s. elim (sub_type_cases p t a s) [
      | inl x ↦ (p, t, are, inl x, omega arith)
      | inr (inl x) ↦ (p, t, are, inr (inl x), omega arith)
      | inr (inr ((xs, c), made, (u, joined, spelled))) ↦ final_shorter p t u a xs c are (some_is (sub_type true xs c) a made) joined spelled
    ]) short_sub_type_measured

-- The first byte of a subtype.
sub_type_first : (b p : ℕ) (u : List ℕ) (a : SubType) → (sub_type_after b).spells p u a → 0x4e < b
sub_type_first b p u a s =
    elim (choose_cases (b == 0x50) _ _ p u a s) [
      | inl (is, x) ↦ omega (arith, eqb-true b 0x50 is)
      | inr (other, x) ↦
          elim (choose_cases (b == 0x4f) (sub_type_parts true) (map_value final_type (composite_after b)) p u a x) [
            | inl (is, y) ↦ omega (arith, eqb-true b 0x4f is)
            | inr (none, (c, made, spelled)) ↦ omega (arith, composite_first b p u c spelled)
          ]
    ]

-- ---- Groups

-- An explicit group.
abbrev Explicit : ℕ → List ℕ → TypeGroup → Type 0
Explicit p t g = Under (λ ts. Some (type_group true ts)) (Led 0x4e (vec subtype).spells) p t g

-- The group of one subtype.
abbrev group_of_one : SubType → TypeGroup
group_of_one t = type_group false (t ∷ [])

-- A group that is one subtype by itself.
abbrev Single : ℕ → List ℕ → TypeGroup → Type 0
Single p t g = (map_value group_of_one subtype).spells p t g

-- The encodings of groups are these.
group_cases : (p : ℕ) (t : List ℕ) (g : TypeGroup) → group.spells p t g → Either Explicit Single p t g
group_cases p t g s =
    let (b, u, joined, others) = after_parts group_after p t g s in
    elim (choose_cases (b == 0x4e) (map_value (type_group true) (vec subtype)) (map_value group_of_one (sub_type_after b)) (p + 1) u g others) [
      | inl (is, (ts, made, spelled)) ↦ inl (ts, made, (u, joined ∙ ap (λ (c : ℕ). c ∷ u) (eqb-true b 0x4e is), spelled))
      | inr (other, (a, made, spelled)) ↦
          inr (a, made, subst (λ (x : List ℕ). subtype.spells p x a) (sym joined) (after_joined sub_type_after p b u a spelled))
    ]

explicit_group : (p : ℕ) (t : List ℕ) (g : TypeGroup) → Explicit p t g → group.spells p t g
explicit_group p t g (ts, made, (u, joined, spelled)) =
    subst (λ (x : List ℕ). group.spells p x g) (sym joined) (after_joined group_after p 0x4e u g (ts, made, spelled))

single_group : (p : ℕ) (t : List ℕ) (g : TypeGroup) → Single p t g → group.spells p t g
single_group p t g (a, made, spelled) =
    let (b, u, joined, others) = after_parts sub_type_after p t a spelled in
    let from : 0x4e < b = sub_type_first b (p + 1) u a others in
    subst (λ (x : List ℕ). group.spells p x g) (sym joined)
    (after_joined group_after p b u g
    (choose_second (b == 0x4e) _ _ (p + 1) u g (ne_eqb b 0x4e (λ z. omega (arith, z, from))) (a, made, others)))

pub group_measured : Measured same group.spells group_len
group_measured =
    same_measured (λ p t g s. elim s [ inl x ↦ explicit_group p t g x | inr x ↦ single_group p t g x ]) group_cases
    (either_measured
    (map_measured (type_group true) (λ ts. refl) (λ ss ts e. ap (type_group true) e) (led_measured 0x4e (list_measured subtype sub_type_measured)))
    (map_measured group_of_one (λ t. omega arith) (λ s t e. ap group_of_one e) sub_type_measured))
