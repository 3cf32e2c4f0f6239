-- Rules about the words of the table: the number of operators, which words several operators share, the natural
-- alignment of each memory operand (section 2.4 of the standard, "Memory Instructions"), and the operand counts of
-- operators on numbers and vectors.
use Rattle.std.specs.Prelude.{◌≡◌, ℕ, ◌+◌, ◌*◌, List, [], ◌∷◌, length, Bool, true, false, ◌&&◌, ◌||◌, ◌==◌, is_some, map, cond, codes, Option, Some, None, refl}
use Rattle.std.specs.List.{filter, list_any}
use Rattle.wasmprinter_spec.specs.Row.{Row, Shape, NoneShape, MemoryShape, MemoryLaneShape, LaneShape, Arity, Fixed}
use Rattle.wasmprinter_spec.specs.Table.{table}
use Rattle.wasmprinter_spec.specs.Text.Items.{or_else}
use Rattle.wasmprinter_spec.specs.Text.Operators.{after_prefix}

-- ---- the number of operators

abbrev after : ℕ → List Row
after p = filter (λ r. r.prefix == p) table

counts : map (λ p. length (after p)) (0 ∷ 0xfb ∷ 0xfc ∷ 0xfd ∷ 0xfe ∷ []) ≡ 199 ∷ 31 ∷ 22 ∷ 256 ∷ 67 ∷ []
unfolding table
counts = refl

in_all : length table ≡ 199 + 31 + 22 + 256 + 67
unfolding table
in_all = refl

-- ---- words that several operators share

-- The bytes of a word as one number
abbrev key_after : ℕ → List ℕ → ℕ
key_after k [] = k
key_after k (b ∷ bs) = key_after (k * 256 + b) bs

abbrev keyed : Row → List ℕ × ℕ
keyed r = (r.word, key_after 0 r.word)

-- The words that occur again later in the list
abbrev repeated_words : List (List ℕ × ℕ) → List (List ℕ)
repeated_words [] = []
repeated_words (x ∷ xs) = cond (list_any (λ y. y.1 == x.1) xs) (x.0 ∷ repeated_words xs) (repeated_words xs)

shared_words : repeated_words (map keyed table) ≡ codes "select" ∷ codes "ref.test" ∷ codes "ref.cast" ∷ []
unfolding table
shared_words = refl

-- ---- parts of words

abbrev begins : List ℕ → List ℕ → Bool
begins p w = is_some (after_prefix p w)

-- The part of a word after the first occurrence of `p`
abbrev after_part : List ℕ → List ℕ → Option (List ℕ)
after_part p [] = after_prefix p []
after_part p (b ∷ w) = or_else (after_prefix p (b ∷ w)) (after_part p w)

abbrev holds : List ℕ → List ℕ → Bool
holds w p = is_some (after_part p w)

-- The value of the first listed prefix that `w` has
abbrev by_beginning : {A : Type 0} → List (List ℕ × A) → List ℕ → Option A
by_beginning [] w = None
by_beginning (x ∷ xs) w = cond (begins x.0 w) (Some x.1) (by_beginning xs w)

abbrev part_by_beginning : {A : Type 0} → List (List ℕ × A) → Option (List ℕ) → Option A
part_by_beginning xs None = None
part_by_beginning xs (Some w) = by_beginning xs w

-- The part of a word after the first dot
abbrev after_dot : List ℕ → Option (List ℕ)
after_dot w = after_part (codes ".") w

-- ---- alignments

-- The number after `load`, `store` or `rmw` is the number of bits that are accessed. For lanes that are extended,
-- all lanes count together.
abbrev accessed : List ℕ → Option ℕ
accessed w =
    part_by_beginning (
    (codes "8x8", 3) ∷ (codes "16x4", 3) ∷ (codes "32x2", 3) ∷ (codes "8", 0) ∷ (codes "16", 1) ∷ (codes "32", 2) ∷ (codes "64", 3) ∷ [])
    (or_else (after_part (codes "load") w) (or_else (after_part (codes "store") w) (after_part (codes "rmw") w)))

-- Without such a number, the type or the operator's name determines the alignment.
abbrev of_type : List ℕ → Option ℕ
of_type w =
    by_beginning (
    (codes "i32", 2) ∷ (codes "i64", 3) ∷ (codes "f32", 2) ∷ (codes "f64", 3) ∷ (codes "v128", 4)
    ∷ (codes "memory.atomic.notify", 2) ∷ (codes "memory.atomic.wait32", 2) ∷ (codes "memory.atomic.wait64", 3) ∷ []) w

abbrev natural : Shape → Option ℕ
natural (MemoryShape n) = Some n
natural (MemoryLaneShape n) = Some n
natural _ = None

abbrev on_memory : List Row
on_memory = filter (λ r. is_some (natural r.shape)) table

alignments : map (λ r. natural r.shape) on_memory ≡ map (λ r. or_else (accessed r.word) (of_type r.word)) on_memory
unfolding table
alignments = refl

-- An operator has a memory operand exactly if it loads, stores, waits or notifies.
abbrev accesses : List ℕ → Bool
accesses w = list_any (holds w) (codes ".load" ∷ codes ".store" ∷ codes ".rmw" ∷ codes ".wait" ∷ codes ".notify" ∷ [])

memory_operands : map (λ r. is_some (natural r.shape)) table ≡ map (λ r. accesses r.word) table
unfolding table
memory_operands = refl

-- ---- operands of memory operators

abbrev of_access : List ℕ → Arity
of_access w =
    cond (holds w (codes "store")) (Fixed 2 0) (cond (holds w (codes "_lane") || (holds w (codes "notify"))) (Fixed 2 1)
    (cond (holds w (codes "wait") || holds w (codes "cmpxchg")) (Fixed 3 1) (cond (holds w (codes "rmw")) (Fixed 2 1) (Fixed 1 1))))

accesses_take : map (λ r. r.arity) on_memory ≡ map (λ r. of_access r.word) on_memory
unfolding table
accesses_take = refl

-- ---- operands of operators on numbers and vectors

abbrev is_none : Shape → Bool
is_none NoneShape = true
is_none _ = false

abbrev of_numbers : List ℕ → Bool
of_numbers w =
    list_any (λ t. begins t w) (
    codes "i32." ∷ codes "i64." ∷ codes "f32." ∷ codes "f64." ∷ codes "v128."
    ∷ codes "i8x16." ∷ codes "i16x8." ∷ codes "i32x4." ∷ codes "i64x2." ∷ codes "f32x4." ∷ codes "f64x2." ∷ [])

abbrev on_numbers : List Row
on_numbers = filter (λ r. is_none r.shape && of_numbers r.word) table

-- The arity by the part of the word after the type. If no entry matches, there are two operands and one result.
abbrev by_name : Option (List ℕ) → Option Arity
by_name w =
    part_by_beginning (
    (codes "eqz", Fixed 1 1) ∷ (codes "clz", Fixed 1 1) ∷ (codes "ctz", Fixed 1 1) ∷ (codes "popcnt", Fixed 1 1)
    ∷ (codes "abs", Fixed 1 1) ∷ (codes "neg", Fixed 1 1) ∷ (codes "ceil", Fixed 1 1) ∷ (codes "floor", Fixed 1 1)
    ∷ (codes "trunc", Fixed 1 1) ∷ (codes "nearest", Fixed 1 1) ∷ (codes "sqrt", Fixed 1 1)
    ∷ (codes "wrap", Fixed 1 1) ∷ (codes "extend", Fixed 1 1) ∷ (codes "convert", Fixed 1 1) ∷ (codes "demote", Fixed 1 1)
    ∷ (codes "promote", Fixed 1 1) ∷ (codes "reinterpret", Fixed 1 1)
    ∷ (codes "splat", Fixed 1 1) ∷ (codes "not", Fixed 1 1) ∷ (codes "any_true", Fixed 1 1) ∷ (codes "all_true", Fixed 1 1)
    ∷ (codes "bitmask", Fixed 1 1) ∷ (codes "extadd_pairwise", Fixed 1 1) ∷ (codes "relaxed_trunc", Fixed 1 1)
    ∷ (codes "bitselect", Fixed 3 1) ∷ (codes "relaxed_madd", Fixed 3 1) ∷ (codes "relaxed_nmadd", Fixed 3 1)
    ∷ (codes "relaxed_laneselect", Fixed 3 1) ∷ (codes "relaxed_dot_i8x16_i7x16_add", Fixed 3 1)
    ∷ (codes "add128", Fixed 4 2) ∷ (codes "sub128", Fixed 4 2) ∷ (codes "mul_wide", Fixed 2 2) ∷ []) w

numbers_take : map (λ r. Some r.arity) on_numbers ≡ map (λ r. or_else (by_name (after_dot r.word)) (Some (Fixed 2 1))) on_numbers
unfolding table
numbers_take = refl

abbrev is_lane : Shape → Bool
is_lane LaneShape = true
is_lane _ = false

-- A lane is extracted from one operand, or replaced in one by another.
abbrev on_lanes : List Row
on_lanes = filter (λ r. is_lane r.shape) table

lanes_take : map (λ r. r.arity) on_lanes ≡ map (λ r. cond (holds r.word (codes ".extract_lane")) (Fixed 1 1) (Fixed 2 1)) on_lanes
unfolding table
lanes_take = refl
