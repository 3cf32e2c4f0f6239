-- Facts about all values that bytes, or byte strings of a kind, encode. Each combinator of grammars carries a
-- predicate from its parts to the whole.
use Rattle.std.proofs.Common.{◌≡◌, ℕ, ◌+◌, ◌<◌, ◌≤◌, List, [], ◌∷◌, ◌++◌, length, Bool, true, false, Option, Some, None, refl, subst, sym}
use Rattle.std.specs.List.{AllByRecursion}
use Rattle.wasmprinter_spec.specs.Grammar.{Grammar, some_is, byte, seq, try_map, map_value, succeed, fail, choose, value_with_place}
use Rattle.wasmprinter_spec.specs.FirstByte.{after_first_byte, Peeked, by_first_byte}
use Rattle.wasmprinter_spec.specs.Binary.ValTypes.{value_if_any}
use Rattle.wasmprinter_spec.specs.Repeated.{AreItems, times, Entries}
use Rattle.wasmprinter_spec.specs.Sized.{take_bytes, alone, exactly}
use Rattle.wasmprinter_spec.specs.Binary.{AreBytes}
use Rattle.wasmprinter_spec.proofs.Each.{all_parts}

-- A kind of byte strings such that both parts of a split byte string are of that kind too
pub record ByteStrings : Type 1 where
  pub Are : List ℕ → Type 0
  pub bytes : (text : List ℕ) → Are text → AreBytes text
  pub split : (t u : List ℕ) → Are (t ++ u) → Are t × Are u

-- Each value that byte strings of the kind encode has P.
pub record Spelled (kind : ByteStrings) {A : Type 0} (g : Grammar A) (P : A → Type 0) : Type 0 where
  pub has : (p : ℕ) (text : List ℕ) (a : A) → kind.Are text → g.spells p text a → P a

-- If bytes are split, both parts are bytes.
pub split_bytes : (t u : List ℕ) → AreBytes (t ++ u) → AreBytes t × AreBytes u
split_bytes t u h = all_parts (λ b. b < 256) t u h

-- All byte strings
abbrev pub all_bytes : ByteStrings
all_bytes = record { Are = AreBytes; bytes = λ text h. h; split = split_bytes }

-- Each value that bytes encode has P.
abbrev pub AllSpelled : {A : Type 0} → Grammar A → (A → Type 0) → Type 0
AllSpelled g P = Spelled all_bytes g P

-- A fact about the values of all byte strings holds for those of the kind.
pub Spelled-of_all : {kind : ByteStrings} {A : Type 0} {g : Grammar A} {P : A → Type 0} → AllSpelled g P → Spelled kind g P
Spelled-of_all {kind} all = record { has = λ p text a are s. all.has p text a (kind.bytes text are) s }

-- The trivial predicate holds of the values of any grammar.
pub Spelled-any : {kind : ByteStrings} {A : Type 0} (g : Grammar A) → Spelled kind g (λ a. Unit {0})
Spelled-any g = record { has = λ p text a bytes s. tt }

-- Two values in sequence have P and Q if the first has P and the second, given the first, has Q.
pub Spelled-seq : {kind : ByteStrings} {A B : Type 0} {g : Grammar A} {h : A → Grammar B} {P : A → Type 0} {Q : A → B → Type 0} →
    Spelled kind g P → ((a : A) → Spelled kind (h a) (Q a)) → Spelled kind (seq g h) (λ x. P x.0 × Q x.0 x.1)
Spelled-seq {kind} first second = record {
  has = λ p text x bytes (t, u, joined, first_spelled, second_spelled).
      let parts = kind.split t u (subst kind.Are joined bytes) in
      (first.has p t x.0 parts.0 first_spelled, (second x.0).has (p + length t) u x.1 parts.1 second_spelled);
}

-- The results of a partial function have Q if it maps values with P to values with Q.
pub Spelled-try_map : {kind : ByteStrings} {A B : Type 0} {f : A → Option B} {g : Grammar A} {P : A → Type 0} {Q : B → Type 0} →
    Spelled kind g P → ((a : A) (b : B) → f a ≡ Some b → P a → Q b) → Spelled kind (try_map f g) Q
Spelled-try_map all keeps = record { has = λ p text b bytes (a, made, spelled). keeps a b made (all.has p text a bytes spelled) }

-- The results of a function have Q if it maps values with P to values with Q.
pub Spelled-map_value : {kind : ByteStrings} {A B : Type 0} {f : A → B} {g : Grammar A} {P : A → Type 0} {Q : B → Type 0} →
    Spelled kind g P → ((a : A) → P a → Q (f a)) → Spelled kind (map_value f g) Q
Spelled-map_value {f} {Q} all keeps = Spelled-try_map all (λ a b e h. subst Q (some_is (f a) b e) (keeps a h))

-- The value of `succeed`, encoded by the empty byte string, has P if it is known to.
pub Spelled-succeed : {kind : ByteStrings} {A : Type 0} {a : A} {P : A → Type 0} → P a → Spelled kind (succeed a) P
Spelled-succeed {a} {P} h = record { has = λ p text b bytes s. subst P (sym s.1) h }

-- The grammar that fails has no values, so all of them have P.
pub Spelled-fail : {kind : ByteStrings} {A : Type 0} {P : A → Type 0} → Spelled kind fail P
Spelled-fail = record { has = λ p text a bytes s. absurd s }

-- If the values of both grammars have P, then so have those of the chosen grammar.
pub Spelled-choose : {kind : ByteStrings} {A : Type 0} {g h : Grammar A} {P : A → Type 0} → (b : Bool) → Spelled kind g P → Spelled kind h P → Spelled kind (choose b g h) P
Spelled-choose true first second = first
Spelled-choose false first second = second

-- The same, where each grammar may assume the result of the test
pub Spelled-choose_by : {kind : ByteStrings} {A : Type 0} {g h : Grammar A} {P : A → Type 0} → (b : Bool) → (b ≡ true → Spelled kind g P) → (b ≡ false → Spelled kind h P) →
    Spelled kind (choose b g h) P
Spelled-choose_by true first second = first refl
Spelled-choose_by false first second = second refl

-- A byte is below 256.
pub AllSpelled-byte : AllSpelled byte (λ b. b < 256)
AllSpelled-byte = record { has = λ p text b bytes s. (subst AreBytes s bytes).0 }

-- Taking n bytes gives a list of n bytes.
pub AllSpelled-take_bytes : (n : ℕ) → AllSpelled (take_bytes n) (λ bs. (length bs ≡ n) × AreBytes bs)
AllSpelled-take_bytes n = record { has = λ p text bs bytes s. subst (λ t. (length t ≡ n) × AreBytes t) (sym s.1) (s.0, bytes) }

-- The value of an option has P if it is known to.
pub Spelled-value_if_any : {kind : ByteStrings} {A : Type 0} {P : A → Type 0} (o : Option A) → ((a : A) → o ≡ Some a → P a) → Spelled kind (value_if_any o) P
Spelled-value_if_any None holds = Spelled-fail
Spelled-value_if_any (Some a) holds = Spelled-succeed (holds a refl)

-- The value after a first byte has P if each value of the grammar for that byte has P.
pub Spelled-after_first_byte : {kind : ByteStrings} {A : Type 0} {h : ℕ → Grammar A} {P : A → Type 0} → ((b : ℕ) → Spelled kind (h b) P) → Spelled kind (after_first_byte h) P
Spelled-after_first_byte each = Spelled-map_value (Spelled-seq (Spelled-any byte) each) (λ x h. h.1)

peeked_has : {kind : ByteStrings} {A : Type 0} {h : ℕ → Grammar A} {P : A → Type 0} → ((b : ℕ) → Spelled kind (h b) P) →
    (p : ℕ) (text : List ℕ) (a : A) → kind.Are text → Peeked h p text a → P a
peeked_has each p [] a bytes s = absurd s
peeked_has each p (b ∷ text) a bytes s = (each b).has p (b ∷ text) a bytes s

-- The value with a first byte has P if each value of the grammar for that byte has P.
pub Spelled-by_first_byte : {kind : ByteStrings} {A : Type 0} {h : ℕ → Grammar A} {P : A → Type 0} → ((b : ℕ) → Spelled kind (h b) P) → Spelled kind (by_first_byte h) P
Spelled-by_first_byte each = record { has = λ p text a bytes s. peeked_has each p text a bytes s }

-- A value with its place has P if the value has P.
pub Spelled-value_with_place : {kind : ByteStrings} {A : Type 0} {g : Grammar A} {P : A → Type 0} → Spelled kind g P → Spelled kind (value_with_place g) (λ x. P x.value)
Spelled-value_with_place all = record { has = λ p text x bytes s. all.has p text x.value bytes s.1 }

-- A value encoded by exactly n bytes has P.
pub Spelled-exactly : {kind : ByteStrings} {A : Type 0} {g : Grammar A} {P : A → Type 0} → Spelled kind g P → (n : ℕ) → Spelled kind (exactly (alone g) n) P
Spelled-exactly all n = record { has = λ p text a bytes s. all.has p text a bytes s.1 }

-- If values take at least as many bytes as their size, then the size of a value encoded by exactly n bytes is at
-- most n.
pub Spelled-within : {kind : ByteStrings} {A : Type 0} {g : Grammar A} {P : A → Type 0} {size : A → ℕ} →
    ((p : ℕ) (text : List ℕ) (a : A) → g.spells p text a → size a ≤ length text) →
    Spelled kind g P → (n : ℕ) → Spelled kind (exactly (alone g) n) (λ a. P a × (size a ≤ n))
Spelled-within {size = size} takes all n = record {
  has = λ p text a bytes s. (all.has p text a bytes s.1, subst (λ k. size a ≤ k) s.0 (takes p text a s.1));
}

-- Items that are encoded one after the other have P.
pub items_have : {kind : ByteStrings} {A : Type 0} {g : Grammar A} {P : A → Type 0} → Spelled kind g P →
    (xs : List A) (p : ℕ) (text : List ℕ) → kind.Are text → AreItems g p text xs → AllByRecursion P xs
items_have all [] p text bytes s = tt
items_have {kind} all (x ∷ xs) p text bytes (t, u, joined, spelled, all_spelled) =
    let parts = kind.split t u (subst kind.Are joined bytes) in
    (all.has p t x parts.0 spelled, items_have all xs (p + length t) u parts.1 all_spelled)

-- Items that are encoded up to the end of the bytes have P.
pub entries_have : {kind : ByteStrings} {A : Type 0} {g : Grammar A} {P : A → Type 0} → Spelled kind g P →
    (xs : List A) (p : ℕ) (text : List ℕ) → kind.Are text → Entries g p text xs → AllByRecursion P xs
entries_have all [] p text bytes s = tt
entries_have {kind} all (x ∷ xs) p text bytes (t, u, joined, takes, spelled, all_spelled) =
    let parts = kind.split t u (subst kind.Are joined bytes) in
    (all.has p t x parts.0 spelled, entries_have all xs (p + length t) u parts.1 all_spelled)

-- The values of `times g n` are n items, each of which has P.
pub Spelled-times : {kind : ByteStrings} {A : Type 0} {g : Grammar A} {P : A → Type 0} → Spelled kind g P →
    (n : ℕ) → Spelled kind (times g n) (λ xs. (length xs ≡ n) × AllByRecursion P xs)
Spelled-times all n = record { has = λ p text xs bytes s. (s.0, items_have all xs p text bytes s.1) }
