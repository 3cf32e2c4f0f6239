-- Memory operands and lanes: their items, that these read back, and that pieces write them
use Rattle.std.proofs.Common.{◌≡◌, ℕ, zero, suc, ◌<◌, ◌≤◌, ◌^◌, Bool, true, false, cond, eqb, List, [], ◌∷◌, ◌++◌, Option, Some, None, refl, sym, ap, ◌∙◌, codes, decimal, arith, option_map, ◌⊎◌, inl, inr}
use Rattle.std.proofs.lemmas.Bool.{cases_lt, eq-eqb, eqb-true, ne_eqb}
use Rattle.std.proofs.lemmas.Nat.{pow_below}
use Rattle.std.proofs.lemmas.Fmt.{decimal_is_IsNumeral}
use Rattle.std.proofs.lemmas.Str.Parse.{digit_at}
use Rattle.std.specs.Str.Parse.{IsNumeral}
use Rattle.wasmprinter_spec.specs.Character.{class}
use Rattle.wasmprinter_spec.specs.Numeral.{exponent_below, exponent_of}
use Rattle.wasmprinter_spec.specs.Forest.{Forest, End, Word, Name, onto}
use Rattle.wasmprinter_spec.specs.Operator.{MemArg, mem_arg_of, MemoryLane}
use Rattle.wasmprinter_spec.specs.Row as row
use Rattle.wasmprinter_spec.specs.Labels.{Named}
use Rattle.wasmprinter_spec.specs.Names.{AreNamed, AreApart, in_function}
use Rattle.wasmprinter_spec.specs.Indexed.{Counts, IsIndex}
use Rattle.wasmprinter_spec.specs.IndexSpaces.{Context, index}
use Rattle.wasmprinter_spec.specs.Text.Operators.{alignment, with_memory, is_option, mem_arg, but_last, mem_arg_and_lane}
use Rattle.wasmprinter_spec.specs.Piece as piece
use Rattle.wasmprinter_spec.specs.Piece.{OneSpace}
use Rattle.wasmprinter_spec.specs.Layout.Operators.{Setting, offset_pieces, align_pieces, mem_arg_pieces, lane_pieces}
use Rattle.wasmprinter_laws.proofs.Tokens.Runs.{is_word}
use Rattle.wasmprinter_spec.proofs.Runs.{all_id_chars-digits}
use Rattle.wasmprinter_laws.proofs.Tokens.Numbers.{is_word-decimal}
use Rattle.wasmprinter_laws.proofs.Tokens.Pieces.{Bound}
use Rattle.wasmprinter_laws.proofs.Tokens.Writes.{Writes, writing, both_write}
use Rattle.wasmprinter_laws.specs.Listed.{IsByte, IsMemArgInRange}
use Rattle.wasmprinter_laws.specs.OperatorLaws.{HaveSameNames}
use Rattle.wasmprinter_laws.proofs.Tabled.{no_rows}
use Rattle.wasmprinter_laws.proofs.Identifiers.{index_items}
use Rattle.wasmprinter_laws.proofs.Operators.Arguments.{AreArguments, arguments_onto}
use Rattle.wasmprinter_laws.proofs.Operators.Numbers.{byte_is_no_word, u8-decimal, u64-decimal}
use Rattle.wasmprinter_laws.proofs.Operators.Spaces.{space_items, item_reads}
use Rattle.wasmprinter_laws.proofs.Operators.Indices.{default_items, default_arguments, default_writes}

-- ---- the items

abbrev offset_items : ℕ → Forest
offset_items n = cond (eqb n 0) End (Word (codes "offset=" ++ decimal n) End)

abbrev align_items : ℕ → ℕ → Forest
align_items natural e = cond (eqb e natural) End (Word (codes "align=" ++ decimal (2 ^ e)) End)

-- The items after the memory
abbrev options_items : ℕ → ℕ → ℕ → Forest
options_items natural offset e = onto (offset_items offset) (align_items natural e)

abbrev pub mem_arg_items : Setting → ℕ → MemArg → Forest
mem_arg_items s natural m = onto (default_items s row.Memory m.memory) (options_items natural m.offset m.exponent)

abbrev pub lane_items : ℕ → Forest
lane_items k = Word (decimal k) End

abbrev pub mem_arg_lane_items : Setting → ℕ → MemArg → ℕ → Forest
mem_arg_lane_items s natural m k = onto (mem_arg_items s natural m) (lane_items k)

-- ---- arguments

offset_arguments : (n : ℕ) → AreArguments (offset_items n)
offset_arguments n = by (eqb n 0)
  where
    by : (b : Bool) → AreArguments (cond b End (Word (codes "offset=" ++ decimal n) End))
    by true = tt
    by false = (no_rows (codes "offset=" ++ decimal n) refl, tt)

align_arguments : (natural e : ℕ) → AreArguments (align_items natural e)
align_arguments natural e = by (eqb e natural)
  where
    by : (b : Bool) → AreArguments (cond b End (Word (codes "align=" ++ decimal (2 ^ e)) End))
    by true = tt
    by false = (no_rows (codes "align=" ++ decimal (2 ^ e)) refl, tt)

pub mem_arg_arguments : (s : Setting) (natural : ℕ) (m : MemArg) → IsMemArgInRange m → AreArguments (mem_arg_items s natural m)
mem_arg_arguments s natural m h =
    arguments_onto (default_items s row.Memory m.memory) (options_items natural m.offset m.exponent) (default_arguments s row.Memory m.memory h.memory)
    (arguments_onto (offset_items m.offset) (align_items natural m.exponent) (offset_arguments m.offset) (align_arguments natural m.exponent))

pub lane_arguments : (k : ℕ) → IsByte k → AreArguments (lane_items k)
lane_arguments k h = (byte_is_no_word k h, tt)

pub mem_arg_lane_arguments : (s : Setting) (natural : ℕ) (m : MemArg) (k : ℕ) → IsMemArgInRange m → IsByte k → AreArguments (mem_arg_lane_items s natural m k)
mem_arg_lane_arguments s natural m k h l = arguments_onto (mem_arg_items s natural m) (lane_items k) (mem_arg_arguments s natural m h) (lane_arguments k l)

-- ---- a power of two

-- The exponent of a power of two is found.
pub exponent_below-power : (n e : ℕ) → e < n → exponent_below n (2 ^ e) ≡ Some e
exponent_below-power zero e h = absurd (omega arith)
exponent_below-power (suc n) e h = by (cases_lt e n) (λ l. exponent_below-power n e l)
  where
    by : (e < n) ⊎ (n ≤ e) → (e < n → exponent_below n (2 ^ e) ≡ Some e) → exponent_below (suc n) (2 ^ e) ≡ Some e
    by (inl l) more =
        let power : 2 ^ e < 2 ^ n = pow_below e n l in
        rw (ne_eqb (2 ^ n) (2 ^ e) (λ same. omega (arith, power))) (more l)
    by (inr l) more =
        let same : n ≡ e = omega arith in
        rw (eq-eqb (2 ^ n) (2 ^ e) (ap (λ k. 2 ^ k) same)) (ap (λ k. Some k) same)

power_below : (e : ℕ) → e < 64 → 2 ^ e < 2 ^ 64
power_below e h = pow_below e 64 h

exponent_of-power : (e : ℕ) → e < 64 → exponent_of (decimal (2 ^ e)) ≡ Some e
exponent_of-power e h = rw (u64-decimal (2 ^ e) (power_below e h)) (exponent_below-power 64 e h)

-- ---- the items read back

alignment-items : (natural e : ℕ) → e < 64 → alignment natural (align_items natural e) ≡ Some e
alignment-items natural e h = by (eqb e natural) refl
  where
    by : (b : Bool) → eqb e natural ≡ b → alignment natural (cond b End (Word (codes "align=" ++ decimal (2 ^ e)) End)) ≡ Some e
    by true same = ap (λ k. Some k) (sym (eqb-true e natural same))
    by false other = exponent_of-power e h

-- An alignment without an offset before it reads back.
with_memory-align : (natural memory e : ℕ) → e < 64 → with_memory natural memory (align_items natural e) ≡ Some (mem_arg_of e memory 0)
with_memory-align natural memory e h = by (eqb e natural) (alignment-items natural e h)
  where
    by : (b : Bool) → alignment natural (cond b End (Word (codes "align=" ++ decimal (2 ^ e)) End)) ≡ Some e →
        with_memory natural memory (cond b End (Word (codes "align=" ++ decimal (2 ^ e)) End)) ≡ Some (mem_arg_of e memory 0)
    by true a = ap (option_map (λ k. mem_arg_of k memory 0)) a
    by false a = rw a

with_memory-options : (natural memory offset e : ℕ) → offset < 2 ^ 64 → e < 64 →
    with_memory natural memory (options_items natural offset e) ≡ Some (mem_arg_of e memory offset)
with_memory-options natural memory offset e small h = by (eqb offset 0) refl
  where
    by : (b : Bool) → eqb offset 0 ≡ b →
        with_memory natural memory (onto (cond b End (Word (codes "offset=" ++ decimal offset) End)) (align_items natural e))
        ≡ Some (mem_arg_of e memory offset)
    by true none = with_memory-align natural memory e h ∙ ap (λ k. Some (mem_arg_of e memory k)) (sym (eqb-true offset 0 none))
    by false some = rw (u64-decimal offset small, alignment-items natural e h)

-- If no memory is named, it is memory 0.
without_memory : (c : Context) (natural offset e : ℕ) →
    mem_arg c natural (options_items natural offset e) ≡ with_memory natural 0 (options_items natural offset e)
without_memory c natural offset e = by (eqb offset 0) (eqb e natural)
  where
    by : (b d : Bool) →
        mem_arg c natural (onto (cond b End (Word (codes "offset=" ++ decimal offset) End)) (cond d End (Word (codes "align=" ++ decimal (2 ^ e)) End)))
        ≡ with_memory natural 0 (onto (cond b End (Word (codes "offset=" ++ decimal offset) End)) (cond d End (Word (codes "align=" ++ decimal (2 ^ e)) End)))
    by true true = refl
    by true false = refl
    by false d = refl

-- A number is neither an offset nor an alignment.
digits_no_option : (ds : List ℕ) → IsNumeral 10 ds → is_option ds ≡ false
digits_no_option [] h = absurd (omega (arith, h.0))
digits_no_option (d ∷ ds) h =
    let within : (48 ≤ d) × (d ≤ 57) = digit_at (d ∷ ds) 0 h.1 h.0 in
    rw (ne_eqb d 111 (λ e. omega (arith, within)), ne_eqb d 97 (λ e. omega (arith, within)))

decimal_no_option : (n : ℕ) → n < 2 ^ 64 → is_option (decimal n) ≡ false
decimal_no_option n h = digits_no_option (decimal n) (decimal_is_IsNumeral n h).0

-- A memory before an offset and an alignment is read.
memory_first : (c : Context) (natural : ℕ) (o : Option Named) (n : ℕ) (f : Forest) → n < 2 ^ 32 → index c.spaces.memories (index_items o n) ≡ Some n →
    mem_arg c natural (onto (index_items o n) f) ≡ with_memory natural n f
memory_first c natural None n f small e = rw (decimal_no_option n (omega (arith, small)), e)
memory_first c natural (Some m) n f small e = rw e

pub mem_arg_reads : (s : Setting) (c : Context) (k : Counts) → HaveSameNames s c k → AreApart s.names → (natural : ℕ) (m : MemArg) → IsMemArgInRange m → IsIndex k row.Memory m.memory →
    mem_arg c natural (mem_arg_items s natural m) ≡ Some m
mem_arg_reads s c k same apart natural m h d = by (eqb m.memory 0) refl
  where
    by : (b : Bool) → eqb m.memory 0 ≡ b →
        mem_arg c natural (onto (cond b End (space_items s row.Memory m.memory)) (options_items natural m.offset m.exponent)) ≡ Some m
    by true first =
        without_memory c natural m.offset m.exponent
        ∙ with_memory-options natural 0 m.offset m.exponent h.offset h.exponent
        ∙ ap (λ j. Some (mem_arg_of m.exponent j m.offset)) (sym (eqb-true m.memory 0 first))
    by false other =
        memory_first c natural (in_function s.names s.function row.Memory m.memory) m.memory (options_items natural m.offset m.exponent) h.memory
        (item_reads s c k same apart row.Memory m.memory refl h.memory d)
        ∙ with_memory-options natural m.memory m.offset m.exponent h.offset h.exponent

-- ---- a lane after a memory operand

-- Only words and identifiers
abbrev AreWords : Forest → Type 0
AreWords End = Unit {0}
AreWords (Word w f) = AreWords f
AreWords (Name n f) = AreWords f
AreWords _ = ⊥

words_onto : (f g : Forest) → AreWords f → AreWords g → AreWords (onto f g)
words_onto End g h k = k
words_onto (Word w f) g h k = words_onto f g h k
words_onto (Name n f) g h k = words_onto f g h k
words_onto _ g h k = absurd h

item_words : (o : Option Named) (n : ℕ) → AreWords (index_items o n)
item_words None n = tt
item_words (Some m) n = tt

default_words : (s : Setting) (n : ℕ) → AreWords (default_items s row.Memory n)
default_words s n = by (eqb n 0)
  where
    by : (b : Bool) → AreWords (cond b End (space_items s row.Memory n))
    by true = tt
    by false = item_words (in_function s.names s.function row.Memory n) n

options_words : (natural offset e : ℕ) → AreWords (options_items natural offset e)
options_words natural offset e = by (eqb offset 0) (eqb e natural)
  where
    by : (b d : Bool) → AreWords (onto (cond b End (Word (codes "offset=" ++ decimal offset) End)) (cond d End (Word (codes "align=" ++ decimal (2 ^ e)) End)))
    by true true = tt
    by true false = tt
    by false true = tt
    by false false = tt

-- The last of several words is found.
but_last-words : (f : Forest) (w : List ℕ) → AreWords f → but_last (onto f (Word w End)) ≡ Some (f, w)
but_last-words End w h = refl
but_last-words (Word v End) w h = refl
but_last-words (Word v (Word u f)) w h = rw (but_last-words (Word u f) w h)
but_last-words (Word v (Name n f)) w h = rw (but_last-words (Name n f) w h)
but_last-words (Name n f) w h = rw (but_last-words f w h)
but_last-words _ w h = absurd h

pub mem_arg_lane_reads : (s : Setting) (c : Context) (k : Counts) → HaveSameNames s c k → AreApart s.names → (natural : ℕ) (m : MemArg) (l : ℕ) → IsMemArgInRange m →
    IsIndex k row.Memory m.memory → IsByte l → mem_arg_and_lane c natural (mem_arg_lane_items s natural m l) ≡ Some (MemoryLane m l)
mem_arg_lane_reads s c k same apart natural m l h d small =
    let words : AreWords (mem_arg_items s natural m) =
    words_onto (default_items s row.Memory m.memory) (options_items natural m.offset m.exponent) (default_words s m.memory) (options_words natural m.offset m.exponent) in
    rw (but_last-words (mem_arg_items s natural m) (decimal l) words, mem_arg_reads s c k same apart natural m h d, u8-decimal l small)

-- ---- pieces write the items

-- `offset=` and `align=`, followed by a number, are words.
is_word-offset : (n : ℕ) → n < 2 ^ 64 → is_word (codes "offset=" ++ decimal n) ≡ true
unfolding class
is_word-offset n h =
    let ((some, are_digits), value) = decimal_is_IsNumeral n h in
    all_id_chars-digits (decimal n) are_digits

is_word-align : (n : ℕ) → n < 2 ^ 64 → is_word (codes "align=" ++ decimal n) ≡ true
unfolding class
is_word-align n h =
    let ((some, are_digits), value) = decimal_is_IsNumeral n h in
    all_id_chars-digits (decimal n) are_digits

offset_writes : (n : ℕ) → n < 2 ^ 64 → Writes Bound (offset_pieces n) Bound (offset_items n)
unfolding offset_pieces
offset_writes n h = by (eqb n 0) (is_word-offset n h)
  where
    by : (b : Bool) → is_word (codes "offset=" ++ decimal n) ≡ true →
        Writes Bound (cond b [] (OneSpace ∷ (piece.Word (codes "offset=" ++ decimal n) ∷ []))) Bound (cond b End (Word (codes "offset=" ++ decimal n) End))
    by true word = search writing
    by false word = search writing

align_writes : (natural e : ℕ) → e < 64 → Writes Bound (align_pieces natural e) Bound (align_items natural e)
unfolding align_pieces
align_writes natural e h = by (eqb e natural) (is_word-align (2 ^ e) (power_below e h))
  where
    by : (b : Bool) → is_word (codes "align=" ++ decimal (2 ^ e)) ≡ true →
        Writes Bound (cond b [] (OneSpace ∷ (piece.Word (codes "align=" ++ decimal (2 ^ e)) ∷ []))) Bound (cond b End (Word (codes "align=" ++ decimal (2 ^ e)) End))
    by true word = search writing
    by false word = search writing

pub mem_arg_writes : (s : Setting) → AreNamed s.names → (natural : ℕ) (m : MemArg) → IsMemArgInRange m → Writes Bound (mem_arg_pieces s natural m) Bound (mem_arg_items s natural m)
unfolding mem_arg_pieces
mem_arg_writes s named natural m h =
    both_write (default_writes s named row.Memory m.memory h.memory) (both_write (offset_writes m.offset h.offset) (align_writes natural m.exponent h.exponent))

pub lane_writes : (k : ℕ) → IsByte k → Writes Bound (lane_pieces k) Bound (lane_items k)
unfolding lane_pieces
lane_writes k h =
    let word : is_word (decimal k) ≡ true = is_word-decimal k (omega arith) in
    search writing

pub mem_arg_lane_writes : (s : Setting) → AreNamed s.names → (natural : ℕ) (m : MemArg) (k : ℕ) → IsMemArgInRange m → IsByte k →
    Writes Bound (mem_arg_pieces s natural m ++ lane_pieces k) Bound (mem_arg_lane_items s natural m k)
mem_arg_lane_writes s named natural m k h l = both_write (mem_arg_writes s named natural m h) (lane_writes k l)
