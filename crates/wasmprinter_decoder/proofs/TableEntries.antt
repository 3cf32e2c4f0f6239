-- Entries of tables, which are selected by their first byte.
use Rattle.std.proofs.Common.{◌≡◌, ℕ, ◌<◌, Bool, true, false, List, [], ◌∷◌, length, Option, Some, None, refl, ap, ◌∙◌, arith, length-append, eqb, ◌≤◌}
use Rattle.std.specs.Prelude.{slice_get, Result, Ok, Err}
use Rattle.std.proofs.lemmas.Bool.{lt-ltb, ne_eqb}
use Rattle.wasmprinter_spec.specs.Grammar.{Input, input, Grammar, ◌>>=◌, some_is, seq, map_value, choose, Placed, value_with_place}
use Rattle.wasmprinter_spec.specs.FirstByte.{only, shorter, by_first_byte, by_first_byte_of}
use Rattle.wasmprinter_spec.specs.Operator.{Operator}
use Rattle.wasmprinter_spec.specs.Placed.{Table, table_of}
use Rattle.wasmprinter_spec.specs.Instructions.{expression, constant}
use Rattle.wasmprinter_spec.specs.Types.{TableType}
use Rattle.wasmprinter_spec.specs.Binary.Tables.{table_type, table_by, table}
use Rattle.wasmprinter_bytes.specs.Reads.{end_of}
use Rattle.wasmprinter_bytes.specs.Lists.{ReadsOrFails, reader, reader_reasons}
use Rattle.wasmprinter_bytes.specs.Reasons.{HasReason}
use Rattle.wasmprinter_ops.specs.Operators.{ReachesBlock}
use Rattle.wasmprinter_decoder.specs.Growing.{TableGrows}
use Rattle.wasmprinter_bytes.proofs.Grown.{part_fault}
use Rattle.wasmprinter_bytes.specs.declared.library_error.Error.{Error}

-- A grammar in which every value takes at least one byte.
module _ {A : Type 0} (h : ℕ → Grammar A) (takes : (b : ℕ) (at : Input) (x : A × Input) → (h b).parse at ≡ Some x → length x.1.bytes < length at.bytes) where
  -- If the rest after the value is always shorter, the test for this does not change the result.
  kept : (n : ℕ) (r : Option (A × Input)) → ((x : A × Input) → r ≡ Some x → length x.1.bytes < n) → (r >>= shorter h n) ≡ r
  kept n None less = refl
  kept n (Some x) less = rw (lt-ltb (length x.1.bytes) n (less x refl)) refl

  by_first : (p b : ℕ) (bytes : List ℕ) → slice_get bytes 0 ≡ Some b → by_first_byte_of h p bytes ≡ (h b).parse (input p bytes)
  by_first p b [] s = absurd cc
  by_first p b (c ∷ cs) s =
      let same : c ≡ b = some_is c b s in
      kept (length (c ∷ cs)) ((h c).parse (input p (c ∷ cs))) (takes c (input p (c ∷ cs))) ∙ ap (λ (d : ℕ). (h d).parse (input p (c ∷ cs))) same

  -- The value is read by the grammar for its first byte.
  pub peeked_by : (at : Input) (b : ℕ) → slice_get at.bytes 0 ≡ Some b → (by_first_byte h).parse at ≡ (h b).parse at
  peeked_by at b s = by_first at.place b at.bytes s

-- A table without an initialiser.
abbrev plain : Grammar (Table (Placed Operator))
plain = map_value (λ t. table_of t None) table_type

-- A table with an initialiser.
abbrev initialised : Grammar (Table (Placed Operator))
initialised = map_value (λ (_, (_, (type, init))). table_of type (Some init)) (seq (only 0x40) (λ _. seq (only 0x00) (λ _. seq table_type (λ _. constant))))

-- Both take at least one byte.
plain_takes : (at : Input) (x : Table (Placed Operator) × Input) → plain.parse at ≡ Some x → length x.1.bytes < length at.bytes
plain_takes at x e =
    let s = plain.sound at x e in
    let (type, kept, (read, made, (front, after, joined, type_spelled, limits))) = s.spelled in
    let (value, is, (first, rest, together, byte_spelled, heap)) = type_spelled in
    omega (
      arith,
      ap length s.parts,
      length-append s.text x.1.bytes,
      ap length joined,
      length-append front after,
      ap length together,
      length-append first rest,
      ap length byte_spelled,
    )

initialised_takes : (at : Input) (x : Table (Placed Operator) × Input) → initialised.parse at ≡ Some x → length x.1.bytes < length at.bytes
initialised_takes at x e =
    let s = initialised.sound at x e in
    let (entry, kept, (front, after, joined, (byte, is, byte_spelled), spelled)) = s.spelled in
    omega (arith, ap length s.parts, length-append s.text x.1.bytes, ap length joined, length-append front after, ap length byte_spelled)

chosen_takes : (c : Bool) (at : Input) (x : Table (Placed Operator) × Input) → (choose c initialised plain).parse at ≡ Some x → length x.1.bytes < length at.bytes
chosen_takes true = initialised_takes
chosen_takes false = plain_takes

-- An entry is read by the grammar for its first byte.
table_first : (at : Input) (b : ℕ) → slice_get at.bytes 0 ≡ Some b → table.parse at ≡ (table_by b).parse at
table_first at b s = peeked_by table_by (λ c. chosen_takes (eqb c 0x40)) at b s

-- The entry with its place.
abbrev with_place : Input → Option (Table (Placed Operator) × Input) → Option (Placed (Table (Placed Operator)) × Input)
with_place at r = r >>= λ a. Some (record { place = at.place; value = a.0 }, a.1)

entry_first : (at : Input) (b : ℕ) → slice_get at.bytes 0 ≡ Some b → (value_with_place table).parse at ≡ (value_with_place (table_by b)).parse at
entry_first at b s = ap (with_place at) (table_first at b s)

-- If no byte is left, no entry can be read.
none_of : (p : ℕ) (bytes : List ℕ) → slice_get bytes 0 ≡ None → (value_with_place table).parse (input p bytes) ≡ None
none_of p [] s = refl
none_of p (c ∷ cs) s = absurd cc

pub no_entry : (at : Input) → slice_get at.bytes 0 ≡ None → (value_with_place table).parse at ≡ None
no_entry at s = none_of at.place at.bytes s

-- An entry whose first byte is not 40 is a table without an initialiser.
pub plain_entry : (at : Input) (b : ℕ) → slice_get at.bytes 0 ≡ Some b → (b ≡ 0x40 → ⊥) → (value_with_place table).parse at ≡ with_place at (plain.parse at)
plain_entry at b s ne =
    let other : (value_with_place (table_by b)).parse at ≡ with_place at (plain.parse at) = rw (ne_eqb b 0x40 ne) refl in
    entry_first at b s ∙ other

-- An entry whose first byte is 40 is a table with an initialiser.
pub initialised_entry : {X : Type 0} (view : X → Placed (Table (Placed Operator))) (at new : Input) (b : ℕ) → slice_get at.bytes 0 ≡ Some b → b ≡ 0x40 → (r : Result X Error)
    → ReadsOrFails view (reader (value_with_place (table_by 0x40)).parse TableGrows) at r new → ReadsOrFails view (reader (value_with_place table).parse TableGrows) at r new
initialised_entry view at new b s is (Ok x) h = entry_first at 0x40 (s ∙ ap (λ (n : ℕ). Some n) is) ∙ h
initialised_entry view at new b s is (Err f) h =
    let same = entry_first at 0x40 (s ∙ ap (λ (n : ℕ). Some n) is) in
    part_fault ((value_with_place (table_by 0x40)).parse at ≡ None) (TableGrows at) ((value_with_place table).parse at ≡ None) (TableGrows at) at at (λ none. same ∙ none) (λ more. more) refl (omega arith) f h

-- An error of the initialiser, after 40 00 and a type, is an error of the entry.
pub initialiser_fault : (at a b c : Input) (x y : ℕ) (t : TableType) → (only 0x40).parse at ≡ Some (x, a) → (only 0x00).parse a ≡ Some (y, b) → table_type.parse b ≡ Some (t, c)
    → end_of c ≡ end_of at → at.place ≤ c.place → (f : Error) → HasReason (reader_reasons (expression.parse c ≡ None) (ReachesBlock c) c) f
    → HasReason (reader_reasons ((value_with_place (table_by 0x40)).parse at ≡ None) (TableGrows at) at) f
initialiser_fault at a b c x y t first second type ends forward =
    part_fault (expression.parse c ≡ None) (ReachesBlock c) ((value_with_place (table_by 0x40)).parse at ≡ None) (TableGrows at) c at (λ none. rw (first, second, type, none) refl)
    (λ more. record {
      value = x;
      after = a;
      read = first;
      holds = record { value = y; after = b; read = second; holds = record { value = t; after = c; read = type; holds = more } };
    }) ends forward
