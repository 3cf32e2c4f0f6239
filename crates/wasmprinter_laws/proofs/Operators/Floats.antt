-- Floats: their text reads back as the same bits, and is the word of no operator.
use Rattle.std.proofs.Common.{◌≡◌, ℕ, ◌<◌, ◌/◌, ◌%◌, ◌^◌, ◌-◌, Bool, true, false, cond, eqb, ltb, List, [], ◌∷◌, ◌++◌, refl, codes, lit≤}
use Rattle.std.specs.Fmt.{digits}
use Rattle.wasmprinter_spec.specs.Forest.{Forest, End, Word}
use Rattle.wasmprinter_spec.specs.Float.{Width, IsWidth, single, double, greatest_exponent, sign_bit, canonical_payload}
use Rattle.wasmprinter_spec.specs.FloatText.{special_text, finite_text, normal_text, subnormal_text, unsigned_text, float_text}
use Rattle.wasmprinter_spec.specs.Piece.{OneSpace, Float}
use Rattle.wasmprinter_laws.proofs.Tokens.Pieces.{Bound}
use Rattle.wasmprinter_laws.proofs.Tokens.Writes.{Writes, one_space_writes, float_writes, nothing_writes}
use Rattle.wasmprinter_laws.proofs.Tabled.{is_argument, no_rows}
use Rattle.wasmprinter_laws.proofs.Operators.Arguments.{AreArguments}

-- ---- the items

abbrev pub float_items : Width → ℕ → Forest
float_items w bits = Word (float_text w bits) End

-- ---- arguments

special_is_argument : (w : Width) (fraction : ℕ) → is_argument (special_text w fraction) ≡ true
special_is_argument w fraction = by (eqb fraction 0) (eqb fraction (canonical_payload w))
  where
    by : (b c : Bool) → is_argument (cond b (codes "inf") (cond c (codes "nan") (codes "nan:0x" ++ digits 16 false fraction))) ≡ true
    by true c = refl
    by false true = refl
    by false false = refl

finite_is_argument : (w : Width) (exponent fraction : ℕ) → is_argument (finite_text w exponent fraction) ≡ true
finite_is_argument w exponent fraction = by (eqb exponent 0) (eqb fraction 0)
  where
    by : (b c : Bool) → is_argument (cond b (cond c (codes "0x0p+0") (subnormal_text w fraction)) (normal_text w exponent fraction)) ≡ true
    by true true = refl
    by true false = refl
    by false c = refl

unsigned_is_argument : (w : Width) (exponent fraction : ℕ) → is_argument (unsigned_text w exponent fraction) ≡ true
unfolding unsigned_text
unsigned_is_argument w exponent fraction = by (eqb exponent (greatest_exponent w))
  where
    by : (b : Bool) → is_argument (cond b (special_text w fraction) (finite_text w exponent fraction)) ≡ true
    by true = special_is_argument w fraction
    by false = finite_is_argument w exponent fraction

-- With a minus sign, it is still a word of immediates.
signed_is_argument : (b : Bool) (s t : List ℕ) → is_argument s ≡ true → is_argument (cond b s (45 ∷ t)) ≡ true
signed_is_argument true s t h = h
signed_is_argument false s t h = refl

float_is_argument : (w : Width) (bits : ℕ) → is_argument (float_text w bits) ≡ true
unfolding float_text
float_is_argument w bits =
    signed_is_argument (ltb bits (sign_bit w)) (unsigned_text w (bits / 2 ^ w.fraction) (bits % 2 ^ w.fraction))
    (unsigned_text w ((bits - sign_bit w) / 2 ^ w.fraction) ((bits - sign_bit w) % 2 ^ w.fraction))
    (unsigned_is_argument w (bits / 2 ^ w.fraction) (bits % 2 ^ w.fraction))

pub float_arguments : (w : Width) (bits : ℕ) → AreArguments (float_items w bits)
float_arguments w bits = (no_rows (float_text w bits) (float_is_argument w bits), tt)

-- ---- pieces write the items

single_is_width : IsWidth single
single_is_width = record { exponent = (lit≤ tt, lit≤ tt); fraction = (lit≤ tt, lit≤ tt) }

double_is_width : IsWidth double
double_is_width = record { exponent = (lit≤ tt, lit≤ tt); fraction = (lit≤ tt, lit≤ tt) }

pub single_writes : (bits : ℕ) → bits < 2 ^ 32 → Writes Bound (OneSpace ∷ (Float single bits ∷ [])) Bound (float_items single bits)
single_writes bits h = one_space_writes refl (float_writes single_is_width h nothing_writes)

pub double_writes : (bits : ℕ) → bits < 2 ^ 64 → Writes Bound (OneSpace ∷ (Float double bits ∷ [])) Bound (float_items double bits)
double_writes bits h = one_space_writes refl (float_writes double_is_width h nothing_writes)
