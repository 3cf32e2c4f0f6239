-- The lengths of shortest encodings by each combinator of grammars. A lemma whose name ends in `_measured` says that a
-- length is that of the shortest encodings. Lemmas that take an encoding apart end in `_cases` or `_parts`.
use Rattle.std.specs.Prelude.{◌≡◌, ℕ, List, [], ◌∷◌, ◌++◌, map, ◌+◌, ◌-◌, ◌<◌, ◌≤◌, ◌⊎◌, length, Bool, true, false, Option, Some, None, ◌==◌, if◌then◌else◌, refl}
use Rattle.std.proofs.Common.{sym, ap, subst, ◌∙◌, arith, inl, inr}
use Rattle.std.proofs.lemmas.List.{length-append, length-map, map-id}
use Rattle.wasmprinter_spec.specs.Grammar.{Grammar, Placed, byte, seq, try_map, map_value, succeed, fail, choose, some_is}
use Rattle.wasmprinter_spec.specs.Repeated.{AreItems}
use Rattle.wasmprinter_spec.specs.FirstByte.{only, after_first_byte}
use Rattle.wasmprinter_spec.specs.Sized.{take_bytes}
use Rattle.wasmprinter_spec.specs.Binary.{AreBytes}
use Rattle.wasmprinter_spec.specs.Name.{u32, vec}
use Rattle.wasmprinter_hidden.specs.Lengths.{unsigned_len, items_len, list_len}
use Rattle.wasmprinter_hidden.specs.Shortest.{IsShortest, IsShortestBut}
use Rattle.wasmprinter_hidden.proofs.Numbers.{unsigned_at_least, unsigned_one_has, digits_some}

-- ---- Bytes

-- Bytes that are joined are bytes.
pub are_joined : (t u : List ℕ) → AreBytes t → AreBytes u → AreBytes (t ++ u)
are_joined [] u first second = second
are_joined (b ∷ t) u first second = (first.0, are_joined t u first.1 second)

-- Both parts of a list of bytes are bytes.
are_parts : (t u : List ℕ) → AreBytes (t ++ u) → AreBytes t × AreBytes u
are_parts [] u all = (tt, all)
are_parts (b ∷ t) u all = let (first, second) = are_parts t u all.1 in ((all.0, first), second)

-- Both parts of bytes that are joined.
pub split_bytes : (bytes t u : List ℕ) → bytes ≡ t ++ u → AreBytes bytes → AreBytes t × AreBytes u
split_bytes bytes t u joined all = are_parts t u (subst AreBytes joined all)

-- The length of bytes that are joined.
pub joined_length : (bytes t u : List ℕ) → bytes ≡ t ++ u → length bytes ≡ length t + length u
joined_length bytes t u joined = ap length joined ∙ length-append t u

-- ---- Shortest encodings by a relation

-- Which bytes encode a value: the place of the first byte, the bytes, and the value.
abbrev pub Spelling : Type 0 → Type 1
Spelling A = ℕ → List ℕ → A → Type 0

-- `len` is the number of bytes of the shortest encodings. The shortest encoding may be that of another value b, if
-- `view b` is `view a`.
pub record Measured {A B : Type 0} (view : A → B) (S : Spelling A) (len : A → ℕ) : Type 0 where
  pub at_least : (p : ℕ) (bytes : List ℕ) (a : A) → AreBytes bytes → S p bytes a → len a ≤ length bytes
  pub one_has : (p q : ℕ) (bytes : List ℕ) (a : A) → AreBytes bytes → S p bytes a
      → (short : List ℕ) × (b : A) × AreBytes short × S q short b × (view b ≡ view a) × (length short ≡ len a)

-- The value itself, where no place is inside.
abbrev pub same : {A : Type 0} → A → A
same a = a

-- The law of a grammar of values without places.
pub is_shortest : {A : Type 0} {g : Grammar A} {len : A → ℕ} → Measured same g.spells len → IsShortest g len
is_shortest {A = A} {g = g} m = record {
  at_least = m.at_least;
  one_has = λ p q bytes a are s.
      let (short, b, are_short, shortly, is, size) = m.one_has p q bytes a are s in
      (short, are_short, subst (λ (x : A). g.spells q short x) is shortly, size);
}

-- The law of a grammar of values with places.
pub is_shortest_but : {A B : Type 0} {view : A → B} {g : Grammar A} {len : A → ℕ} → Measured view g.spells len → IsShortestBut view g len
is_shortest_but m = record { at_least = m.at_least; one_has = m.one_has }

-- ---- Two values, one after the other

-- A function for each of the two values.
abbrev pub both : {A B C D : Type 0} → (A → C) → (B → D) → A × B → C × D
both v w x = (v x.0, w x.1)

-- The sum of the lengths of the two values.
abbrev pub sum_len : {A B : Type 0} → (A → ℕ) → (B → ℕ) → A × B → ℕ
sum_len k l x = k x.0 + l x.1

-- The relation of `seq`, where the second grammar does not depend on the first value: the bytes are those of x.0 by S, followed
-- by those of x.1 by T.
abbrev pub Then : {A B : Type 0} → Spelling A → Spelling B → Spelling (A × B)
Then S T p text x = (t u : List ℕ) × (text ≡ t ++ u) × S p t x.0 × T (p + length t) u x.1

-- The length of two values, one after the other, is the sum of their lengths.
pub then_measured : {A B C D : Type 0} {v : A → C} {w : B → D} {S : Spelling A} {T : Spelling B} {k : A → ℕ} {l : B → ℕ} →
    Measured v S k → Measured w T l → Measured (both v w) (Then S T) (sum_len k l)
then_measured {C = C} {D = D} {v = v} {w = w} {k = k} {l = l} m n = record {
  at_least = λ p bytes x are s.
      let (t, u, joined, first, second) = s in
      let parts = split_bytes bytes t u joined are in
      let some : k x.0 ≤ length t = m.at_least p t x.0 parts.0 first in
      let others : l x.1 ≤ length u = n.at_least (p + length t) u x.1 parts.1 second in
      omega (arith, some, others, joined_length bytes t u joined);
  one_has = λ p q bytes x are s.
      let (t, u, joined, first, second) = s in
      let parts = split_bytes bytes t u joined are in
      let (short, a, are_short, shortly, is, size) = m.one_has p q t x.0 parts.0 first in
      let (others, b, are_others, otherwise, is_other, other_size) = n.one_has (p + length t) (q + length short) u x.1 parts.1 second in
      let pairs : ◌≡◌ {A = C × D} (v a, w b) (v x.0, w x.1) =
      ap (λ (c : C). (c, w b)) is ∙ ap (λ (d : D). (v x.0, d)) is_other in (
        short ++ others,
        (a, b),
        are_joined short others are_short are_others,
        (short, others, refl, shortly, otherwise),
        pairs,
        omega (arith, length-append short others, size, other_size),
      );
}

-- ---- The values under a function

-- The bytes encode, by S, a value that f maps to b.
abbrev pub Under : {A B : Type 0} → (A → Option B) → Spelling A → Spelling B
Under {A = A} f S p text b = (a : A) × (f a ≡ Some b) × S p text a

-- The values under a total function. `len_is` says that the function keeps the length, `keeps` that values with one view
-- are mapped to values with one view.
pub map_measured_where : {A B C D : Type 0} {v : A → C} {w : B → D} {S : Spelling A} {k : A → ℕ} {l : B → ℕ} (f : A → B) →
    ((p : ℕ) (t : List ℕ) (a : A) → S p t a → l (f a) ≡ k a) → ((a b : A) → v a ≡ v b → w (f a) ≡ w (f b)) → Measured v S k →
    Measured w (Under (λ a. Some (f a)) S) l
map_measured_where {B = B} {D = D} {w = w} {k = k} {l = l} f len_is keeps m = record {
  at_least = λ p bytes b are s.
      let (a, is, spelled) = s in
      let some : k a ≤ length bytes = m.at_least p bytes a are spelled in
      let same_len : l b ≡ k a = ap l (sym (some_is (f a) b is)) ∙ len_is p bytes a spelled in
      omega (arith, some, same_len);
  one_has = λ p q bytes b are s.
      let (a, is, spelled) = s in
      let (short, c, are_short, shortly, alike, size) = m.one_has p q bytes a are spelled in
      let image : f a ≡ b = some_is (f a) b is in
      (short, f c, are_short, (c, refl, shortly), keeps c a alike ∙ ap w image, size ∙ sym (len_is p bytes a spelled) ∙ ap l image);
}

-- The same for a function that keeps the length of each value.
pub map_measured : {A B C D : Type 0} {v : A → C} {w : B → D} {S : Spelling A} {k : A → ℕ} {l : B → ℕ} (f : A → B) →
    ((a : A) → l (f a) ≡ k a) → ((a b : A) → v a ≡ v b → w (f a) ≡ w (f b)) → Measured v S k →
    Measured w (Under (λ a. Some (f a)) S) l
map_measured f len_is keeps m = map_measured_where f (λ p t a s. len_is a) keeps m

-- The values under a partial function.
pub try_map_measured : {A B : Type 0} {S : Spelling A} {k : A → ℕ} {l : B → ℕ} (f : A → Option B) →
    ((a : A) (b : B) → f a ≡ Some b → l b ≡ k a) → Measured same S k → Measured same (Under f S) l
try_map_measured {k = k} {l = l} f len_is m = record {
  at_least = λ p bytes b are s.
      let (a, is, spelled) = s in
      let some : k a ≤ length bytes = m.at_least p bytes a are spelled in
      omega (arith, some, len_is a b is);
  one_has = λ p q bytes b are s.
      let (a, is, spelled) = s in
      let (short, c, are_short, shortly, alike, size) = m.one_has p q bytes a are spelled in
      (short, b, are_short, (c, ap f alike ∙ is, shortly), refl, size ∙ sym (len_is a b is));
}

-- The same lengths, with fewer values told apart.
pub coarser : {A B C : Type 0} {v : A → B} {w : A → C} {S : Spelling A} {l : A → ℕ} →
    ((a b : A) → v a ≡ v b → w a ≡ w b) → Measured v S l → Measured w S l
coarser keeps m = record {
  at_least = m.at_least;
  one_has = λ p q bytes a are s.
      let (short, b, are_short, shortly, alike, size) = m.one_has p q bytes a are s in
      (short, b, are_short, shortly, keeps b a alike, size);
}

-- The same lengths, given in other words.
pub with_len : {A B : Type 0} {v : A → B} {S : Spelling A} {k : A → ℕ} (l : A → ℕ) → ((a : A) → l a ≡ k a) → Measured v S k → Measured v S l
with_len {k = k} l is m = record {
  at_least = λ p bytes a are s. let some : k a ≤ length bytes = m.at_least p bytes a are s in omega (arith, some, is a);
  one_has = λ p q bytes a are s.
      let (short, b, are_short, shortly, alike, size) = m.one_has p q bytes a are s in
      (short, b, are_short, shortly, alike, size ∙ sym (is a));
}

-- ---- Values without other encodings

-- One byte.
abbrev pub one : {A : Type 0} → A → ℕ
one a = 1

-- A byte has one encoding, which is one byte.
pub byte_measured : Measured same byte.spells one
byte_measured = record {
  at_least = λ p bytes b are s. omega (arith, ap length s);
  one_has = λ p q bytes b are s. (bytes, b, are, s, refl, ap length s);
}

-- A value for some bytes.
pub byte_map_measured : {A : Type 0} (f : ℕ → Option A) → Measured same (try_map f byte).spells one
byte_map_measured f = try_map_measured f (λ a b e. refl) byte_measured

-- A value that the empty byte string encodes has the length 0.
pub succeed_measured : {A B : Type 0} {v : A → B} {l : A → ℕ} (a : A) → l a ≡ 0 → Measured v (succeed a).spells l
succeed_measured {l = l} a none = record {
  at_least = λ p bytes b are s. let size : l b ≡ 0 = ap l s.1 ∙ none in omega (arith, size);
  one_has = λ p q bytes b are s. ([], b, tt, (refl, s.1), refl, sym (ap l s.1 ∙ none));
}

-- A grammar without values has every length.
pub fail_measured : {A B : Type 0} {v : A → B} {l : A → ℕ} → Measured v (fail {A = A}).spells l
fail_measured = record { at_least = λ p bytes b are s. absurd s; one_has = λ p q bytes b are s. absurd s }

-- Each of the two grammars that a test selects from has these lengths.
pub choose_measured : {A B : Type 0} {v : A → B} {l : A → ℕ} (c : Bool) (g h : Grammar A) →
    Measured v g.spells l → Measured v h.spells l → Measured v (choose c g h).spells l
choose_measured true g h m n = m
choose_measured false g h m n = n

-- ---- Encodings of two kinds

-- The bytes encode the value in one of two ways.
abbrev pub Either : {A : Type 0} → Spelling A → Spelling A → Spelling A
Either S T p text a = S p text a ⊎ T p text a

-- Each of the two ways has these lengths.
pub either_measured : {A B : Type 0} {v : A → B} {S T : Spelling A} {l : A → ℕ} →
    Measured v S l → Measured v T l → Measured v (Either S T) l
either_measured m n = record {
  at_least = λ p bytes a are s. elim s [ inl x ↦ m.at_least p bytes a are x | inr y ↦ n.at_least p bytes a are y ];
  one_has = λ p q bytes a are s.
      elim s [
        | inl x ↦ let (short, b, are_short, shortly, alike, size) = m.one_has p q bytes a are x in (short, b, are_short, inl shortly, alike, size)
        | inr y ↦ let (short, b, are_short, shortly, alike, size) = n.one_has p q bytes a are y in (short, b, are_short, inr shortly, alike, size)
      ];
}

-- The bytes u encode the value by S, from any place on, and are at most `most` bytes.
abbrev pub HasWithin : {A : Type 0} → Spelling A → A → ℕ → Type 0
HasWithin S a most = (p : ℕ) × (u : List ℕ) × AreBytes u × S p u a × (length u ≤ most)

-- T has the encodings of S, and others that are no shorter.
pub covered_measured : {A B : Type 0} {v : A → B} {S T : Spelling A} {l : A → ℕ} →
    ((p : ℕ) (t : List ℕ) (a : A) → S p t a → T p t a) →
    ((p : ℕ) (t : List ℕ) (a : A) → AreBytes t → T p t a → HasWithin S a (length t)) →
    Measured v S l → Measured v T l
covered_measured {l = l} holds back m = record {
  at_least = λ p bytes a are s.
      let (q, u, are_u, other, size) = back p bytes a are s in
      let least : l a ≤ length u = m.at_least q u a are_u other in
      omega (arith, least, size);
  one_has = λ p q bytes a are s.
      let (r, u, are_u, other, size) = back p bytes a are s in
      let (short, b, are_short, shortly, alike, size) = m.one_has r q u a are_u other in
      (short, b, are_short, holds q short b shortly, alike, size);
}

-- S and T are the same relation.
pub same_measured : {A B : Type 0} {v : A → B} {S T : Spelling A} {l : A → ℕ} →
    ((p : ℕ) (t : List ℕ) (a : A) → S p t a → T p t a) →
    ((p : ℕ) (t : List ℕ) (a : A) → T p t a → S p t a) →
    Measured v S l → Measured v T l
same_measured holds back m = covered_measured holds (λ p t a are s. (p, t, are, back p t a s, omega arith)) m

-- ---- Values with places

-- The value of x by S, with its place.
abbrev pub WithPlace : {A : Type 0} → Spelling A → Spelling (Placed A)
WithPlace S p text x = (x.place ≡ p) × S p text x.value

-- `f` of a value without its place.
abbrev pub of_value : {A B : Type 0} → (A → B) → Placed A → B
of_value f x = f x.value

-- A place has no bytes.
pub placed_measured : {A B : Type 0} {v : A → B} {S : Spelling A} {l : A → ℕ} → Measured v S l →
    Measured (of_value v) (WithPlace S) (of_value l)
placed_measured m = record {
  at_least = λ p bytes a are s. m.at_least p bytes a.value are s.1;
  one_has = λ p q bytes a are s.
      let (short, b, are_short, shortly, alike, size) = m.one_has p q bytes a.value are s.1 in
      (short, record { place = q; value = b }, are_short, (refl, shortly), alike, size);
}

-- ---- Items

-- The first half of `items_measured`, by recursion over the items.
items_at_least : {A B : Type 0} {v : A → B} {l : A → ℕ} (g : Grammar A) → Measured v g.spells l →
    (xs : List A) (p : ℕ) (bytes : List ℕ) → AreBytes bytes → AreItems g p bytes xs → items_len l xs ≤ length bytes
items_at_least g m [] p bytes are s = omega arith
items_at_least {l = l} g m (x ∷ xs) p bytes are s =
    let (t, u, joined, first, others) = s in
    let parts = split_bytes bytes t u joined are in
    let some : l x ≤ length t = m.at_least p t x parts.0 first in
    let more : items_len l xs ≤ length u = items_at_least g m xs (p + length t) u parts.1 others in
    omega (arith, some, more, joined_length bytes t u joined)

-- The second half of `items_measured`, by recursion over the items.
items_one_has : {A B : Type 0} {v : A → B} {l : A → ℕ} (g : Grammar A) → Measured v g.spells l →
    (xs : List A) (p q : ℕ) (bytes : List ℕ) → AreBytes bytes → AreItems g p bytes xs →
    (short : List ℕ) × (ys : List A) × AreBytes short × AreItems g q short ys × (map v ys ≡ map v xs) × (length short ≡ items_len l xs)
items_one_has g m [] p q bytes are s = ([], [], tt, refl, refl, refl)
items_one_has {B = B} {v = v} {l = l} g m (x ∷ xs) p q bytes are s =
    let (t, u, joined, first, others) = s in
    let parts = split_bytes bytes t u joined are in
    let (short, y, are_short, shortly, alike, size) = m.one_has p q t x parts.0 first in
    let (shorts, ys, are_shorts, all_shortly, all_alike, all_size) =
    items_one_has {v = v} g m xs (p + length t) (q + length short) u parts.1 others in
    let views : ◌≡◌ {A = List B} (v y ∷ map v ys) (v x ∷ map v xs) =
    ap (λ (b : B). b ∷ map v ys) alike ∙ ap (λ (bs : List B). v x ∷ bs) all_alike in (
      short ++ shorts,
      y ∷ ys,
      are_joined short shorts are_short are_shorts,
      (short, shorts, refl, shortly, all_shortly),
      views,
      omega (arith, length-append short shorts, size, all_size),
    )

-- The length of items, one after the other, is the sum of their lengths.
pub items_measured : {A B : Type 0} {v : A → B} {l : A → ℕ} (g : Grammar A) → Measured v g.spells l →
    Measured (map v) (AreItems g) (items_len l)
items_measured {v = v} g m = record {
  at_least = λ p bytes xs are s. items_at_least g m xs p bytes are s;
  one_has = λ p q bytes xs are s. items_one_has {v = v} g m xs p q bytes are s;
}

-- Lists with one view have one length.
pub one_length : {A B : Type 0} (v : A → B) (xs ys : List A) → map v xs ≡ map v ys → length xs ≡ length ys
one_length v xs ys alike = sym (length-map xs v) ∙ ap length alike ∙ length-map ys v

-- A count, and the items.
pub vec_measured : {A B : Type 0} {v : A → B} {l : A → ℕ} (g : Grammar A) → Measured v g.spells l →
    Measured (map v) (vec g).spells (list_len l)
vec_measured {A = A} {v = v} {l = l} g m = record {
  at_least = λ p bytes xs are s.
      let ((n, ys), is, (t, u, joined, count, (size, items))) = s in
      let parts = split_bytes bytes t u joined are in
      let same_items : ys ≡ xs = some_is ys xs is in
      let some : unsigned_len n ≤ length t = unsigned_at_least 9 32 t n parts.0 count in
      let more : items_len l ys ≤ length u = items_at_least g m ys (p + length t) u parts.1 items in
      let sum : unsigned_len (length ys) + items_len l ys ≤ length bytes =
      rw size (omega (arith, some, more, joined_length bytes t u joined)) in
      subst (λ (zs : List A). list_len l zs ≤ length bytes) same_items sum;
  one_has = λ p q bytes xs are s.
      let ((n, ys), is, (t, u, joined, count, (size, items))) = s in
      let parts = split_bytes bytes t u joined are in
      let same_items : ys ≡ xs = some_is ys xs is in
      let (short, are_short, shortly, short_size) = unsigned_one_has 9 32 t n (omega arith) parts.0 count in
      let (shorts, zs, are_shorts, all_shortly, alike, all_size) =
      items_one_has {v = v} g m ys (p + length t) (q + length short) u parts.1 items in
      let sum : length short + length shorts ≡ list_len l ys = omega (arith, short_size, all_size, ap unsigned_len size) in (
        short ++ shorts,
        zs,
        are_joined short shorts are_short are_shorts,
        ((n, zs), refl, (short, shorts, refl, shortly, (one_length v zs ys alike ∙ size, all_shortly))),
        alike ∙ ap (map v) same_items,
        length-append short shorts ∙ sum ∙ ap (list_len l) same_items,
      );
}

-- A list of values without places.
pub list_measured : {A : Type 0} {l : A → ℕ} (g : Grammar A) → Measured same g.spells l → Measured same (vec g).spells (list_len l)
list_measured g m = coarser (λ xs ys alike. sym (map-id xs) ∙ alike ∙ map-id ys) (vec_measured g m)

-- ---- After the first byte

-- The parts of bytes that encode a value after their first byte.
pub after_parts : {A : Type 0} (h : ℕ → Grammar A) (p : ℕ) (text : List ℕ) (a : A) → (after_first_byte h).spells p text a →
    (b : ℕ) × (u : List ℕ) × (text ≡ b ∷ u) × (h b).spells (p + 1) u a
after_parts {A = A} h p text a s =
    let ((b, c), is, (t, u, joined, first, others)) = s in
    let size : p + length t ≡ p + 1 = ap (λ (x : List ℕ). p + length x) first in (
      b,
      u,
      joined ∙ ap (λ (x : List ℕ). x ++ u) first,
      subst (λ (x : A). (h b).spells (p + 1) u x) (some_is c a is) (subst (λ (i : ℕ). (h b).spells i u c) size others),
    )

-- A byte, and then bytes that encode the value after this byte.
pub after_joined : {A : Type 0} (h : ℕ → Grammar A) (p b : ℕ) (u : List ℕ) (a : A) → (h b).spells (p + 1) u a →
    (after_first_byte h).spells p (b ∷ u) a
after_joined h p b u a s = ((b, a), refl, (b ∷ [], u, refl, refl, s))

-- The first byte stays.
pub after_measured : {A B : Type 0} {v : A → B} {l : A → ℕ} (h : ℕ → Grammar A) → ((a : A) → 1 ≤ l a) →
    ((b : ℕ) → Measured v (h b).spells (λ a. l a - 1)) → Measured v (after_first_byte h).spells l
after_measured {l = l} h some m = record {
  at_least = λ p bytes a are s.
      let (b, u, joined, others) = after_parts h p bytes a s in
      let all : AreBytes (b ∷ u) = subst AreBytes joined are in
      let least : l a - 1 ≤ length u = (m b).at_least (p + 1) u a all.1 others in
      omega (arith, least, ap length joined);
  one_has = λ p q bytes a are s.
      let (b, u, joined, others) = after_parts h p bytes a s in
      let all : AreBytes (b ∷ u) = subst AreBytes joined are in
      let (short, c, are_short, shortly, alike, size) = (m b).one_has (p + 1) (q + 1) u a all.1 others in
      (b ∷ short, c, (all.0, are_short), after_joined h q b short c shortly, alike, omega (arith, size, some a));
}

-- A byte that is given.
pub only_measured : (c : ℕ) → Measured same (only c).spells one
only_measured c = byte_map_measured (λ b. if b == c then Some b else None)

-- ---- After a small number

-- A number below k, which is one byte in the shortest encoding, and a value whose grammar depends on this number. The
-- length of the value includes this byte.
pub number_after_measured : {A B : Type 0} {v : A → B} {l : A → ℕ} (h : ℕ → Grammar A) (k : ℕ) → k ≤ 128 →
    ((n p : ℕ) (t : List ℕ) (a : A) → (h n).spells p t a → n < k) → ((a : A) → 1 ≤ l a) →
    ((n : ℕ) → Measured v (h n).spells (λ a. l a - 1)) → Measured v (map_value (λ x. x.1) (seq u32 h)).spells l
number_after_measured {A = A} {v = v} {l = l} h k small below some m = record {
  at_least = λ p bytes a are s.
      let ((n, c), is, (t, u, joined, number, others)) = s in
      let parts = split_bytes bytes t u joined are in
      let at_first : unsigned_len n ≤ length t = unsigned_at_least 9 32 t n parts.0 number in
      let least : l c - 1 ≤ length u = (m n).at_least (p + length t) u c parts.1 others in
      omega (arith, digits_some 9 n, at_first, least, joined_length bytes t u joined, ap l (some_is c a is));
  one_has = λ p q bytes a are s.
      let ((n, c), is, (t, u, joined, number, others)) = s in
      let parts = split_bytes bytes t u joined are in
      let same_value : c ≡ a = some_is c a is in
      let less : n < k = below n (p + length t) u c others in
      let (short, b, are_short, shortly, alike, size) = (m n).one_has (p + length t) (q + 1) u c parts.1 others in (
        n ∷ short,
        b,
        (omega (arith, less, small), are_short),
        ((n, b), refl, (n ∷ [], short, refl, inl (omega (arith, less, small), omega (arith, less, small), refl, refl), shortly)),
        alike ∙ ap v same_value,
        omega (arith, size, some c, ap l same_value),
      );
}

-- ---- Choices

-- A value of a grammar that a test selects, by the test.
pub choose_cases : {A : Type 0} (c : Bool) (g h : Grammar A) (p : ℕ) (t : List ℕ) (a : A) → (choose c g h).spells p t a →
    ((c ≡ true) × g.spells p t a) ⊎ ((c ≡ false) × h.spells p t a)
choose_cases true g h p t a s = inl (refl, s)
choose_cases false g h p t a s = inr (refl, s)

-- A value of the first grammar, if the test is true.
pub choose_first : {A : Type 0} (c : Bool) (g h : Grammar A) (p : ℕ) (t : List ℕ) (a : A) → c ≡ true → g.spells p t a →
    (choose c g h).spells p t a
choose_first true g h p t a e s = s
choose_first false g h p t a e s = absurd cc

-- A value of the second grammar, if the test is false.
pub choose_second : {A : Type 0} (c : Bool) (g h : Grammar A) (p : ℕ) (t : List ℕ) (a : A) → c ≡ false → h.spells p t a →
    (choose c g h).spells p t a
choose_second false g h p t a e s = s
choose_second true g h p t a e s = absurd cc

-- ---- After a given byte

-- The bytes are c, and then bytes that encode the value.
abbrev pub Led : {A : Type 0} → ℕ → Spelling A → Spelling A
Led c S p text a = (u : List ℕ) × (text ≡ c ∷ u) × S (p + 1) u a

-- The length with that byte.
abbrev pub led_len : {A : Type 0} → (A → ℕ) → A → ℕ
led_len l a = 1 + l a

-- A given byte and a value.
pub led_measured : {A B : Type 0} {v : A → B} {S : Spelling A} {l : A → ℕ} (c : ℕ) → Measured v S l → Measured v (Led c S) (led_len l)
led_measured {l = l} c m = record {
  at_least = λ p bytes a are s.
      let (u, joined, others) = s in
      let all : AreBytes (c ∷ u) = subst AreBytes joined are in
      let least : l a ≤ length u = m.at_least (p + 1) u a all.1 others in
      omega (arith, least, ap length joined);
  one_has = λ p q bytes a are s.
      let (u, joined, others) = s in
      let all : AreBytes (c ∷ u) = subst AreBytes joined are in
      let (short, b, are_short, shortly, alike, size) = m.one_has (p + 1) (q + 1) u a all.1 others in
      (c ∷ short, b, (all.0, are_short), (short, refl, shortly), alike, omega (arith, size));
}

-- ---- A value, and then another whose encoding depends on the first

-- The relation of `seq`: the bytes are those of x.0 by S, followed by those of x.1 by T x.0.
abbrev pub ThenBy : {A B : Type 0} → Spelling A → (A → Spelling B) → Spelling (A × B)
ThenBy S T p text x = (t u : List ℕ) × (text ≡ t ++ u) × S p t x.0 × T x.0 (p + length t) u x.1

-- The sum of the lengths of the two values. That of the second may depend on the first.
abbrev pub sum_len_by : {A B : Type 0} → (A → ℕ) → (A → B → ℕ) → A × B → ℕ
sum_len_by k l x = k x.0 + l x.0 x.1

-- The length of a value, and of another whose encoding depends on the first.
pub then_by_measured : {A B C : Type 0} {w : B → C} {S : Spelling A} {k : A → ℕ} (T : A → Spelling B) (l : A → B → ℕ) →
    Measured same S k → ((a : A) → Measured w (T a) (l a)) → Measured (both same w) (ThenBy S T) (sum_len_by k l)
then_by_measured {A = A} {B = B} {C = C} {w = w} {S = S} {k = k} T l m n = record {
  at_least = λ p bytes x are s.
      let (t, u, joined, first, second) = s in
      let parts = split_bytes bytes t u joined are in
      let some : k x.0 ≤ length t = m.at_least p t x.0 parts.0 first in
      let others : l x.0 x.1 ≤ length u = (n x.0).at_least (p + length t) u x.1 parts.1 second in
      omega (arith, some, others, joined_length bytes t u joined);
  one_has = λ p q bytes x are s.
      let (t, u, joined, first, second) = s in
      let parts = split_bytes bytes t u joined are in
      let (short, a, are_short, shortly, is, size) = m.one_has p q t x.0 parts.0 first in
      let (others, b, are_others, otherwise, is_other, other_size) =
      (n x.0).one_has (p + length t) (q + length short) u x.1 parts.1 second in (
        short ++ others,
        (x.0, b),
        are_joined short others are_short are_others,
        (short, others, refl, subst (λ (c : A). S q short c) is shortly, otherwise),
        ap (λ (c : C). (x.0, c)) is_other,
        omega (arith, length-append short others, size, other_size),
      );
}

-- n bytes, whose number is known.
pub fixed_measured : (n : ℕ) → Measured same (take_bytes n).spells (λ bytes. n)
fixed_measured n = record {
  at_least = λ p bytes b are s. omega (arith, s.0);
  one_has = λ p q bytes b are s. (bytes, b, are, s, refl, s.0);
}
