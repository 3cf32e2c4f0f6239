-- Limits of memories and tables, with the type of addresses before them
use Rattle.std.proofs.Common.{◌≡◌, ℕ, ◌<◌, ◌^◌, Bool, true, false, Option, Some, None, refl, sym, ap, ◌∙◌, codes, decimal, bytes_eq, List, ◌∷◌}
use Rattle.std.proofs.lemmas.Bool.{false_from_ne_true}
use Rattle.wasmprinter_spec.specs.Character.{class}
use Rattle.wasmprinter_spec.specs.Forest.{Forest, End, Word, onto}
use Rattle.wasmprinter_spec.specs.Numeral.{numeral, natural}
use Rattle.wasmprinter_spec.specs.Types.{Limits, limits_of}
use Rattle.wasmprinter_spec.specs.Layout.Limits.{wide_pieces, max_words, limits_pieces}
use Rattle.wasmprinter_spec.specs.Text.Items.{identifier_in_front}
use Rattle.wasmprinter_spec.specs.Text.Limits.{address_type, max_after, limits}
use Rattle.wasmprinter_laws.proofs.Operators.Numbers.{u64-decimal}
use Rattle.wasmprinter_laws.proofs.Tokens.Runs.{are_words}
use Rattle.wasmprinter_laws.proofs.Tokens.Numbers.{natural-decimal, is_word-decimal}
use Rattle.wasmprinter_laws.proofs.Tokens.Pieces.{Free, Bound}
use Rattle.wasmprinter_laws.proofs.Tokens.Writes.{Writes, writing, nothing_writes, words_before}
use Rattle.wasmprinter_laws.proofs.Ranged.{IsRangedMax}
use Rattle.wasmprinter_laws.proofs.Bytes.{bytes_same}

-- ---- the items

abbrev pub wide_items : Bool → Forest
wide_items true = Word (codes "i64") End
wide_items false = End

abbrev pub limits_items : Limits → Forest
limits_items l = Word (decimal l.min) (words_before (max_words l.max) End)

-- ---- pieces write the items

pub wide_writes : (wide : Bool) → Writes Free (wide_pieces wide) Free (wide_items wide)
unfolding class
wide_writes true = search writing
wide_writes false = nothing_writes

are_words-max : (max : Option ℕ) → IsRangedMax max → are_words (max_words max) ≡ true
are_words-max None h = refl
are_words-max (Some n) h = rw (is_word-decimal n h)

pub limits_write : (l : Limits) → l.min < 2 ^ 64 → IsRangedMax l.max → Writes Free (limits_pieces l) Bound (limits_items l)
unfolding limits_pieces
limits_write l h k =
    let words : are_words (decimal l.min ∷ max_words l.max) ≡ true = rw (is_word-decimal l.min h) (are_words-max l.max k) in
    search writing

-- ---- the items read back

-- The text of a number differs from each word that is not a number.
not_word : (n : ℕ) (w : List ℕ) → n < 2 ^ 64 → natural w ≡ None → bytes_eq (decimal n) w ≡ false
not_word n w h none =
    false_from_ne_true (bytes_eq (decimal n) w) (λ e.
    let number : natural w ≡ Some n = ap natural (sym (bytes_same (decimal n) w e)) ∙ natural-decimal n h in
    let clash : ◌≡◌ {A = Option ℕ} None (Some n) = sym none ∙ number in
    absurd cc)

no_i64 : natural (codes "i64") ≡ None
unfolding natural numeral
no_i64 = refl

no_i32 : natural (codes "i32") ≡ None
unfolding natural numeral
no_i32 = refl

pub address_type-items : (wide : Bool) (l : Limits) (f : Forest) → l.min < 2 ^ 64 →
    address_type (onto (wide_items wide) (onto (limits_items l) f)) ≡ (wide, onto (limits_items l) f)
address_type-items true l f h = refl
address_type-items false l f h = rw (not_word l.min (codes "i64") h no_i64, not_word l.min (codes "i32") h no_i32)

-- The items do not start with a number.
abbrev pub IsNoNumber : Forest → Type 0
IsNoNumber f = (min : ℕ) → max_after min f ≡ (limits_of min None, f)

max-items : (min : ℕ) (max : Option ℕ) (f : Forest) → IsRangedMax max → IsNoNumber f →
    max_after min (onto (words_before (max_words max) End) f) ≡ (limits_of min max, f)
max-items min (Some n) f k after = rw (u64-decimal n k)
max-items min None f k after = after min

pub limits-items : (l : Limits) (f : Forest) → l.min < 2 ^ 64 → IsRangedMax l.max → IsNoNumber f →
    limits (onto (limits_items l) f) ≡ Some (l, f)
limits-items l f h k after = rw (u64-decimal l.min h, max-items l.min l.max f k after)

-- The limits do not start with an identifier.
pub identifier_in_front-limits : (wide : Bool) (l : Limits) (f : Forest) →
    identifier_in_front (onto (wide_items wide) (onto (limits_items l) f)) ≡ (None, onto (wide_items wide) (onto (limits_items l) f))
identifier_in_front-limits true l f = refl
identifier_in_front-limits false l f = refl
