-- Bounds on the places in an encoded value. For each combinator of grammars, the bounds on the parts give bounds
-- on the whole.
use Rattle.std.proofs.Common.{◌≡◌, ℕ, ◌+◌, ◌≤◌, List, [], ◌∷◌, ◌++◌, length, Option, Some, subst, sym, ap, arith}
use Rattle.std.specs.List.{flat_map}
use Rattle.std.proofs.lemmas.List.{length-append}
use Rattle.wasmprinter_spec.specs.Grammar.{Grammar, Remainder, some_is, byte, seq, try_map, map_value, Placed, value_with_place}
use Rattle.wasmprinter_spec.specs.Leb.{IsUnsigned}
use Rattle.wasmprinter_spec.specs.Name.{u32, vec}
use Rattle.wasmprinter_spec.specs.Repeated.{AreItems, times, Entries}
use Rattle.wasmprinter_spec.specs.Sized.{alone, exactly}
use Rattle.wasmprinter_spec.specs.Operator.{Operator}
use Rattle.wasmprinter_spec.specs.Instructions.{end_byte, operator, expression}
use Rattle.wasmprinter_laws.proofs.Lines.Order.{Order, wider}

-- The places of a value are within its bytes, after the first `n` of them.
pub record Lies (o : Order) {A : Type 0} (n : ℕ) (g : Grammar A) (shown : A → List ℕ) : Type 0 where
  pub lie : (p : ℕ) (text : List ℕ) (a : A) → g.spells p text a → o.holds (p + n) (shown a) (p + length text)

-- Every value without places satisfies `Lies`.
pub Lies-any : {o : Order} {A : Type 0} (g : Grammar A) → Lies o 0 g (λ a. [])
Lies-any {o} g = record { lie = λ p text a s. o.none (p + 0) (p + length text) (omega arith) }

-- A byte has no places, and its encoding has at least one byte.
pub Lies-byte : {o : Order} → Lies o 1 byte (λ b. [])
Lies-byte {o} = record { lie = λ p text b s. o.none (p + 1) (p + length text) (omega (arith, ap length s)) }

some_unsigned : (bits : ℕ) (text : List ℕ) (n : ℕ) → IsUnsigned bits text n → 1 ≤ length text
some_unsigned bits [] n s = absurd s
some_unsigned bits (b ∷ bs) n s = omega arith

pub Lies-u32 : {o : Order} → Lies o 1 u32 (λ n. [])
Lies-u32 {o} = record { lie = λ p text n s. o.none (p + 1) (p + length text) (omega (arith, some_unsigned 32 text n s)) }

-- If a value and the value after it satisfy `Lies`, so do both together.
pub Lies-seq : {o : Order} {A B : Type 0} {n m : ℕ} {g : Grammar A} {h : A → Grammar B} {f : A → List ℕ} {k : A → B → List ℕ} →
    Lies o n g f → ((a : A) → Lies o m (h a) (k a)) → Lies o n (seq g h) (λ x. f x.0 ++ k x.0 x.1)
Lies-seq {o} {n} {m} {f} {k} first second = record {
  lie = λ p text x (t, u, joined, first_spelled, second_spelled).
      o.joined (p + n) (p + length t) (p + length text) (f x.0) (k x.0 x.1)
      (first.lie p t x.0 first_spelled)
      (wider o (p + length t) (p + length t + m) (p + length t + length u) (p + length text) (k x.0 x.1)
      (omega arith) (omega (arith, ap length joined, length-append t u)) ((second x.0).lie (p + length t) u x.1 second_spelled));
}

-- If the first of two values has no places, the places of the second are after the first bytes of both.
pub Lies-after : {o : Order} {A B : Type 0} {n m : ℕ} {g : Grammar A} {h : A → Grammar B} {k : A → B → List ℕ} →
    Lies o n g (λ a. []) → ((a : A) → Lies o m (h a) (k a)) → Lies o (n + m) (seq g h) (λ x. k x.0 x.1)
Lies-after {o} {n} {m} {k} first second = record {
  lie = λ p text x (t, u, joined, first_spelled, second_spelled).
      let long : p + n ≤ p + length t = o.ends (p + n) (p + length t) [] (first.lie p t x.0 first_spelled) in
      wider o (p + (n + m)) (p + length t + m) (p + length t + length u) (p + length text) (k x.0 x.1)
      (omega (arith, long)) (omega (arith, ap length joined, length-append t u)) ((second x.0).lie (p + length t) u x.1 second_spelled);
}

-- The bound may be on fewer first bytes.
pub Lies-less : {o : Order} {A : Type 0} (n m : ℕ) {g : Grammar A} {f : A → List ℕ} → m ≤ n → Lies o n g f → Lies o m g f
Lies-less {o} n m {f} le all = record {
  lie = λ p text a s. wider o (p + m) (p + n) (p + length text) (p + length text) (f a) (omega (arith, le)) (omega arith) (all.lie p text a s);
}

-- If a function keeps the places of values, its results satisfy `Lies`.
pub Lies-mapped : {o : Order} {A B : Type 0} {n : ℕ} {f : A → Option B} {g : Grammar A} {shown : A → List ℕ} {known : B → List ℕ} →
    ((a : A) (b : B) → f a ≡ Some b → shown a ≡ known b) → Lies o n g shown → Lies o n (try_map f g) known
Lies-mapped {o} {n} same all = record {
  lie = λ p text b (a, made, spelled).
      subst (λ (xs : List ℕ). o.holds (p + n) xs (p + length text)) (same a b made) (all.lie p text a spelled);
}

pub Lies-map_value : {o : Order} {A B : Type 0} {n : ℕ} {f : A → B} {g : Grammar A} (shown : B → List ℕ) → Lies o n g (λ a. shown (f a)) → Lies o n (map_value f g) shown
Lies-map_value {f} shown all = Lies-mapped (λ a b e. ap shown (some_is (f a) b e)) all

-- If a value satisfies `Lies`, so does the value with its place.
pub Lies-value_with_place : {o : Order} {A : Type 0} {g : Grammar A} {shown : A → List ℕ} → Lies o 1 g shown → Lies o 0 (value_with_place g) (λ x. x.place ∷ shown x.value)
Lies-value_with_place {o} {shown} all = record {
  lie = λ p text x s.
      let own = all.lie p text x.value s.1 in
      let here : o.holds (p + 0) ((p + 0) ∷ []) (p + 1) = o.one (p + 0) (p + 1) (omega arith) in
      let same : p + 0 ≡ x.place = omega (arith, s.0) in
      subst (λ (q : ℕ). o.holds (p + 0) (q ∷ shown x.value) (p + length text)) same
      (o.joined (p + 0) (p + 1) (p + length text) ((p + 0) ∷ []) (shown x.value) here own);
}

-- The same of a value that is encoded by all remaining bytes.
pub record LiesIn (o : Order) {A : Type 0} (n : ℕ) (w : Remainder A) (shown : A → List ℕ) : Type 0 where
  pub lie : (p : ℕ) (text : List ℕ) (a : A) → w.spells p text a → o.holds (p + n) (shown a) (p + length text)

-- A value that satisfies `Lies` satisfies `LiesIn` if no bytes follow it.
pub LiesIn-alone : {o : Order} {A : Type 0} {n : ℕ} {g : Grammar A} {shown : A → List ℕ} → Lies o n g shown → LiesIn o n (alone g) shown
LiesIn-alone all = record { lie = λ p text a s. all.lie p text a s }

-- A value that is encoded by exactly `size` bytes satisfies `Lies`.
pub Lies-exactly : {o : Order} {A : Type 0} {n : ℕ} {w : Remainder A} {shown : A → List ℕ} → LiesIn o n w shown → (size : ℕ) → Lies o n (exactly w size) shown
Lies-exactly all size = record { lie = λ p text a s. all.lie p text a s.1 }

-- If each item satisfies `Lies`, the places of successive items are within the bytes of all.
pub items_lie : {o : Order} {A : Type 0} {g : Grammar A} {shown : A → List ℕ} → Lies o 0 g shown →
    (xs : List A) (p : ℕ) (text : List ℕ) → AreItems g p text xs → o.holds p (flat_map shown xs) (p + length text)
items_lie {o} all [] p text s = o.none p (p + length text) (omega arith)
items_lie {o} {shown} all (x ∷ xs) p text (t, u, joined, spelled, all_spelled) =
    o.joined p (p + length t) (p + length text) (shown x) (flat_map shown xs)
    (wider o p (p + 0) (p + length t) (p + length t) (shown x) (omega arith) (omega arith) (all.lie p t x spelled))
    (wider o (p + length t) (p + length t) (p + length t + length u) (p + length text) (flat_map shown xs)
    (omega arith) (omega (arith, ap length joined, length-append t u)) (items_lie all xs (p + length t) u all_spelled))

pub Lies-times : {o : Order} {A : Type 0} {g : Grammar A} {shown : A → List ℕ} → Lies o 0 g shown → (n : ℕ) → Lies o 0 (times g n) (λ xs. flat_map shown xs)
Lies-times {o} {shown} all n = record {
  lie = λ p text xs s. wider o (p + 0) p (p + length text) (p + length text) (flat_map shown xs) (omega arith) (omega arith) (items_lie all xs p text s.1);
}

-- If each item satisfies `Lies`, so does a vector: a count, followed by the items.
pub Lies-vec : {o : Order} {A : Type 0} {g : Grammar A} {shown : A → List ℕ} → Lies o 0 g shown → Lies o 1 (vec g) (λ xs. flat_map shown xs)
Lies-vec {shown} all = Lies-map_value (λ xs. flat_map shown xs) (Lies-less (1 + 0) 1 (omega arith) (Lies-after Lies-u32 (λ n. Lies-times all n)))

-- The places of operators and of the `end` after them satisfy `Lies`. The place of the `end` is after those of the
-- operators.
pub Lies-expression : {o : Order} → Lies o 0 (value_with_place operator) (λ x. x.place ∷ []) → Lies o 0 expression (λ x. flat_map (λ y. y.place ∷ []) x.items ++ (x.end ∷ []))
Lies-expression {o} all = record {
  lie = λ p text x (t, joined, all_spelled, nested, end_place).
      let shown : List ℕ = flat_map (λ (y : Placed Operator). y.place ∷ []) x.items in
      let items : o.holds p shown (p + length t) = items_lie all x.items p t all_spelled in
      let last : o.holds (p + length t) ((p + length t) ∷ []) (p + length text) =
      o.one (p + length t) (p + length text) (omega (arith, ap length joined, length-append t (end_byte ∷ []))) in
      let whole = o.joined p (p + length t) (p + length text) shown ((p + length t) ∷ []) items last in
      let named : o.holds p (shown ++ (x.end ∷ [])) (p + length text) =
      subst (λ (q : ℕ). o.holds p (shown ++ (q ∷ [])) (p + length text)) (sym end_place) whole in
      wider o (p + 0) p (p + length text) (p + length text) (shown ++ (x.end ∷ [])) (omega arith) (omega arith) named;
}

-- If each item satisfies `Lies`, the places of items up to the end of the bytes are within these bytes.
pub entries_lie : {o : Order} {A : Type 0} {g : Grammar A} {shown : A → List ℕ} → Lies o 0 g shown →
    (xs : List A) (p : ℕ) (text : List ℕ) → Entries g p text xs → o.holds p (flat_map shown xs) (p + length text)
entries_lie {o} all [] p text s = o.none p (p + length text) (omega arith)
entries_lie {o} {shown} all (x ∷ xs) p text (t, u, joined, takes, spelled, all_spelled) =
    o.joined p (p + length t) (p + length text) (shown x) (flat_map shown xs)
    (wider o p (p + 0) (p + length t) (p + length t) (shown x) (omega arith) (omega arith) (all.lie p t x spelled))
    (wider o (p + length t) (p + length t) (p + length t + length u) (p + length text) (flat_map shown xs)
    (omega arith) (omega (arith, ap length joined, length-append t u)) (entries_lie all xs (p + length t) u all_spelled))
