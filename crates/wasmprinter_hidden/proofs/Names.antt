-- The lengths of the shortest encodings of integers as values of grammars, of byte strings and names.
use Rattle.std.specs.Prelude.{◌≡◌, ℕ, ℤ, pos, negsuc, List, ◌++◌, ◌+◌, ◌≤◌, length, Some, refl}
use Rattle.std.specs.Str.{is_utf8}
use Rattle.std.proofs.Common.{sym, ap, subst, ◌∙◌, arith}
use Rattle.std.proofs.lemmas.List.{length-append}
use Rattle.wasmprinter_spec.specs.Grammar.{some_is}
use Rattle.wasmprinter_spec.specs.Choices.{tested}
use Rattle.wasmprinter_spec.specs.Leb.{signed, unsigned}
use Rattle.wasmprinter_spec.specs.Name.{u32, checked_text, name}
use Rattle.wasmprinter_spec.specs.Binary.DataSegments.{byte_vec}
use Rattle.wasmprinter_spec.specs.Binary.ValTypes.{non_negative, signed_index}
use Rattle.wasmprinter_hidden.specs.Lengths.{unsigned_len, signed_len, bytes_len}
use Rattle.wasmprinter_hidden.proofs.Numbers.{unsigned_at_least, unsigned_one_has, signed_at_least, signed_one_has, signed_len_is}
use Rattle.wasmprinter_hidden.proofs.Combinators.{Measured, same, split_bytes, joined_length, are_joined, with_len, try_map_measured}

-- Unsigned integers of at most 70 bits, for which ten digits are enough.
pub unsigned_measured : (bits : ℕ) → bits ≤ 70 → Measured same (unsigned bits).spells unsigned_len
unsigned_measured bits enough = record {
  at_least = λ p bytes n are s. unsigned_at_least 9 bits bytes n are s;
  one_has = λ p q bytes n are s.
      let (short, are_short, shortly, size) = unsigned_one_has 9 bits bytes n (omega (arith, enough)) are s in
      (short, n, are_short, shortly, refl, size);
}

pub u32_measured : Measured same u32.spells unsigned_len
u32_measured = unsigned_measured 32 (omega arith)

-- Signed integers of at most 70 bits.
pub signed_measured : (bits : ℕ) → bits ≤ 70 → Measured same (signed bits).spells signed_len
signed_measured bits enough =
    with_len signed_len signed_len_is (record {
      at_least = λ p bytes n are s. signed_at_least 9 bits bytes n are s;
      one_has = λ p q bytes n are s.
          let (short, are_short, shortly, size) = signed_one_has 9 bits bytes n (omega (arith, enough)) are s in
          (short, n, are_short, shortly, refl, size);
    })

-- A number that is not negative is that number.
index_is : (z : ℤ) (n : ℕ) → non_negative z ≡ Some n → signed_len (pos n) ≡ signed_len z
index_is (pos m) n e = ap (λ (k : ℕ). signed_len (pos k)) (sym (some_is m n e))
index_is (negsuc m) n e = absurd cc

-- Type indices, as signed integers.
pub signed_index_measured : Measured same signed_index.spells (λ n. signed_len (pos n))
signed_index_measured = try_map_measured non_negative index_is (signed_measured 33 (omega arith))

-- A length, and that many bytes.
pub byte_vec_measured : Measured same byte_vec.spells bytes_len
byte_vec_measured = record {
  at_least = λ p bytes x are s.
      let ((n, ys), is, (t, u, joined, number, (size, text))) = s in
      let parts = split_bytes bytes t u joined are in
      let some : unsigned_len n ≤ length t = unsigned_at_least 9 32 t n parts.0 number in
      let same_bytes : u ≡ x = sym text ∙ some_is ys x is in
      let sum : bytes_len u ≤ length bytes = omega (arith, some, ap unsigned_len size, joined_length bytes t u joined) in
      subst (λ (z : List ℕ). bytes_len z ≤ length bytes) same_bytes sum;
  one_has = λ p q bytes x are s.
      let ((n, ys), is, (t, u, joined, number, (size, text))) = s in
      let parts = split_bytes bytes t u joined are in
      let same_bytes : u ≡ x = sym text ∙ some_is ys x is in
      let (short, are_short, shortly, short_size) = unsigned_one_has 9 32 t n (omega arith) parts.0 number in
      let sum : length short + length u ≡ bytes_len u = omega (arith, short_size, ap unsigned_len size) in (
        short ++ u,
        x,
        are_joined short u are_short parts.1,
        ((n, ys), is, (short, u, refl, shortly, (size, text))),
        refl,
        length-append short u ∙ sum ∙ ap bytes_len same_bytes,
      );
}

-- The bytes of a name are those that are encoded.
checked_is : (x y : List ℕ) → checked_text x ≡ Some y → bytes_len y ≡ bytes_len x
checked_is x y e = ap bytes_len (sym (some_is x y (tested (is_utf8 x) (Some x) y e).1))

pub name_measured : Measured same name.spells bytes_len
name_measured = try_map_measured checked_text checked_is byte_vec_measured
