-- The hints of a function's text: annotations after identifiers are ignored, and each hint is before its operator.
use Rattle.std.proofs.Common.{◌≡◌, ℕ, ◌-◌, ◌+◌, Bool, true, false, List, [], ◌∷◌, ◌++◌, Option, Some, None, refl, ap, ◌∙◌, bytes_eq, map, option_map, length}
use Rattle.std.specs.List.{AllByRecursion, list_any}
use Rattle.wasmprinter_spec.specs.Grammar.{Placed, ◌>>=◌}
use Rattle.wasmprinter_spec.specs.Forest.{Forest, End, Word, Name, String, Group, onto}
use Rattle.wasmprinter_spec.specs.Operator.{Operator}
use Rattle.wasmprinter_spec.specs.Row.{Role}
use Rattle.wasmprinter_spec.specs.Table.{rows_of, word_of, role_of, shape_of}
use Rattle.wasmprinter_spec.specs.Labels.{Label, labels_after, count_after, labels_outside, labels_inside}
use Rattle.wasmprinter_spec.specs.Module.{without_places}
use Rattle.wasmprinter_spec.specs.Customs.Hints.{Hint, FunctionHints, flag, next_hint, hints_after, hints_of_next, entries_after}
use Rattle.wasmprinter_spec.specs.Placed.{PlacedFunction}
use Rattle.wasmprinter_spec.specs.HintsOfModule.{OperatorHint, operator_hint}
use Rattle.wasmprinter_spec.specs.Piece.{flag_byte}
use Rattle.wasmprinter_spec.specs.Code.{Chunk, chunk, Flat, code_of, with_word, with_hint, with_hint_group, code, chunks_of_forest}
use Rattle.wasmprinter_spec.specs.Layout.Operators.{Setting}
use Rattle.wasmprinter_spec.specs.Text.Hints.{header_words, body_of, chunk_hints}
use Rattle.wasmprinter_laws.proofs.Tokens.Noted.{Noted, no_items, a_word, a_name, a_noted_name, a_string, a_group, a_note}
use Rattle.wasmprinter_laws.specs.Listed.{IsListed}
use Rattle.wasmprinter_laws.proofs.Tabled.{HasRow, row_for}
use Rattle.wasmprinter_laws.proofs.Operators.Arguments.{AreArguments}
use Rattle.wasmprinter_laws.proofs.Operators.Forms.{hint_items}
use Rattle.wasmprinter_laws.proofs.Operators.Immediates.{arguments_by}
use Rattle.wasmprinter_laws.proofs.Operators.Lists.{arguments_items, hinted_items, chunks_of_instructions-Flat, row_word, word_takes}

-- ---- the hints that operators take, in order

-- The hint of operator k of function f, if it has one
abbrev pub own_hint : ℕ → ℕ → Option (Placed Hint) → List OperatorHint
own_hint f k None = []
own_hint f k (Some h) = operator_hint f k h.value.taken ∷ []

-- The hints of operators from k on, in a body that starts at the place `body`
abbrev pub taken_hints : ℕ → ℕ → ℕ → List (Placed Hint) → List (Placed Operator) → List OperatorHint
taken_hints f k body hs [] = []
taken_hints f k body hs (o ∷ os) = own_hint f k (next_hint (o.place - body) hs) ++ taken_hints f (k + 1) body (hints_after (o.place - body) hs) os

-- The hints of functions from index i on
abbrev pub all_taken : List FunctionHints → ℕ → List PlacedFunction → List OperatorHint
all_taken es i [] = []
all_taken es i (f ∷ fs) = taken_hints i 0 f.body.place (hints_of_next i es) f.body.value.operators ++ all_taken (entries_after i es) (i + 1) fs

-- ---- code

-- Items read as these items, followed by operators of function f from k on with these hints.
record IsCode (z front : Forest) (f k : ℕ) (rs : List OperatorHint) : Type 0 where
  chunks : List Chunk
  is : code z ≡ Some (code_of front (map Flat chunks))
  hints : chunk_hints f k chunks ≡ Some rs

-- The same after any items
record AfterFront (z : Forest) (f k : ℕ) (rs : List OperatorHint) : Type 0 where
  front : Forest
  code_is : IsCode z front f k rs

-- Arguments before operators
arguments_noted : (a : Forest) → AreArguments a → (g : Forest) (f k : ℕ) (rs : List OperatorHint) → ((y : Forest) → Noted y g → IsCode y End f k rs) →
    (z : Forest) → Noted z (onto a g) → AfterFront z f k rs
arguments_noted End h g f k rs law z n = record { front = End; code_is = law z n }
arguments_noted (Word w a) h g f k rs law _ (a_word {f = y} n) =
    let b : AfterFront y f k rs = arguments_noted a h.1 g f k rs law y n in
    record {
      front = Word w b.front;
      code_is = record { chunks = b.code_is.chunks; is = rw (h.0, b.code_is.is); hints = b.code_is.hints };
    }
arguments_noted (Name s a) h g f k rs law _ (a_name {f = y} n) =
    let b : AfterFront y f k rs = arguments_noted a h g f k rs law y n in
    record {
      front = Name s b.front;
      code_is = record { chunks = b.code_is.chunks; is = rw b.code_is.is; hints = b.code_is.hints };
    }
arguments_noted (Name s a) h g f k rs law _ (a_noted_name {f = y} n) =
    let b : AfterFront y f k rs = arguments_noted a h g f k rs law y n in
    record {
      front = Name s b.front;
      code_is = record { chunks = b.code_is.chunks; is = rw b.code_is.is; hints = b.code_is.hints };
    }
arguments_noted (Group (Word w x) a) h g f k rs law _ (a_group {f = z} (a_word {f = y} m) n) =
    let b : AfterFront z f k rs = arguments_noted a h.1 g f k rs law z n in
    record {
      front = Group (Word w y) b.front;
      code_is = record { chunks = b.code_is.chunks; is = rw (h.0, b.code_is.is); hints = b.code_is.hints };
    }
arguments_noted _ h g f k rs law z n = absurd h

-- The flag of a hint is read from its byte.
pub flag-byte : (taken : Bool) → flag (flag_byte taken) ≡ Some taken
flag-byte true = refl
flag-byte false = refl

-- The word of an operator, before operators, is that operator.
operator_code : (o : Operator) → IsListed o → (z : Forest) (f k : ℕ) (rs : List OperatorHint) → AfterFront z f (k + 1) rs → IsCode (Word (word_of o.opcode) z) End f k rs
operator_code o l z f k rs b =
    let r : HasRow o = row_for o l in
    let w : List ℕ = word_of o.opcode in
    record {
      chunks = chunk (rows_of w) b.front ∷ b.code_is.chunks;
      is = ap (with_word (rows_of w) w) b.code_is.is ∙ word_takes r.row r.in_table w (row_word o r) b.front (map Flat b.code_is.chunks);
      hints = rw b.code_is.hints;
    }

-- An operator, with or without a hint before it
operator_noted : (hint : Option (Placed Hint)) (o : Operator) → IsListed o → (a : Forest) → AreArguments a → (g : Forest) (f k : ℕ) (rs : List OperatorHint) →
    ((y : Forest) → Noted y g → IsCode y End f (k + 1) rs) → (z : Forest) → Noted z (hint_items hint (Word (word_of o.opcode) (onto a g))) →
    IsCode z End f k (own_hint f k hint ++ rs)
operator_noted None o l a h g f k rs law _ (a_word {f = y} n) = operator_code o l y f k rs (arguments_noted a h g f (k + 1) rs law y n)
operator_noted (Some hint) o l a h g f k rs law _ (a_note (a_string no_items) (a_word {f = y} n)) =
    let w : List ℕ = word_of o.opcode in
    let b : AfterFront y f (k + 1) rs = arguments_noted a h g f (k + 1) rs law y n in
    let x : Forest = String (flag_byte hint.value.taken ∷ []) End in
    let r : HasRow o = row_for o l in
    let own : code (Word w y) ≡ Some (code_of End (map Flat (chunk (rows_of w) b.front ∷ b.code_is.chunks))) =
    ap (with_word (rows_of w) w) b.code_is.is ∙ word_takes r.row r.in_table w (row_word o r) b.front (map Flat b.code_is.chunks) in
    record {
      chunks = with_hint_group x (chunk (rows_of w) b.front) ∷ b.code_is.chunks;
      is = ap (option_map (with_hint x)) own;
      hints = rw (flag-byte hint.value.taken, b.code_is.hints);
    }

module _ (s : Setting) (f : ℕ) where
  operators_code : (hs : List (Placed Hint)) (n : ℕ) (xs : List Label) (os : List (Placed Operator)) (k : ℕ) → AllByRecursion IsListed (without_places os) →
      (z : Forest) → Noted z (hinted_items s hs n xs os) → IsCode z End f k (taken_hints f k s.body hs os)
  operators_code hs n xs [] k l _ no_items = record { chunks = []; is = refl; hints = refl }
  operators_code hs n xs (o ∷ os) k l z m =
      let role : Role = role_of o.value.opcode in
      let own : Label = s.names.labels s.function n (length xs) in
      let ys : List Label = labels_after role own xs in
      let after : List (Placed Hint) = hints_after (o.place - s.body) hs in
      operator_noted (next_hint (o.place - s.body) hs) o.value l.0 (arguments_items s own xs o.value)
      (arguments_by s (labels_inside role xs) (labels_outside role xs) own (shape_of o.value.opcode) o.value.immediates l.0.range)
      (hinted_items s after (count_after role n) ys os) f k (taken_hints f (k + 1) s.body after os)
      (operators_code after (count_after role n) ys os (k + 1) l.1) z m

  -- The body starts with the first operator or its hint.
  first_noted : (hint : Option (Placed Hint)) (w : List ℕ) (g z : Forest) → Noted z (hint_items hint (Word w g)) → body_of z ≡ z
  first_noted None w g _ (a_word n) = refl
  first_noted (Some hint) w g _ (a_note m n) = refl

  body_noted : (hs : List (Placed Hint)) (n : ℕ) (xs : List Label) (os : List (Placed Operator)) (z : Forest) → Noted z (hinted_items s hs n xs os) → body_of z ≡ z
  body_noted hs n xs [] _ no_items = refl
  body_noted hs n xs (o ∷ os) z m = first_noted (next_hint (o.place - s.body) hs) (word_of o.value.opcode) _ z m

  -- The operators of a body have these hints.
  pub operators_hints : (hs : List (Placed Hint)) (os : List (Placed Operator)) → AllByRecursion IsListed (without_places os) →
      (z : Forest) → Noted z (hinted_items s hs 0 [] os) → (chunks_of_forest (body_of z) >>= chunk_hints f 0) ≡ Some (taken_hints f 0 s.body hs os)
  operators_hints hs os l z m =
      let c : IsCode z End f 0 (taken_hints f 0 s.body hs os) = operators_code hs 0 [] os 0 l z m in
      rw (body_noted hs 0 [] os z m, c.is, chunks_of_instructions-Flat c.chunks, c.hints)

-- ---- the header before a body

-- Identifiers, and groups of a type, of parameters, of results and of locals
abbrev pub AreHeader : Forest → Type 0
AreHeader End = Unit {0}
AreHeader (Name s f) = AreHeader f
AreHeader (Group (Word w g) f) = (list_any (λ v. bytes_eq v w) header_words ≡ true) × AreHeader f
AreHeader _ = ⊥

pub header_onto : (a b : Forest) → AreHeader a → AreHeader b → AreHeader (onto a b)
header_onto End b h k = k
header_onto (Name s a) b h k = header_onto a b h k
header_onto (Group (Word w g) a) b h k = (h.0, header_onto a b h.1 k)
header_onto _ b h k = absurd h

-- A fact about the body of items also holds with a header before the items.
pub header_noted : (P : Forest → Type 0) (a : Forest) → AreHeader a → (g : Forest) → ((y : Forest) → Noted y g → P (body_of y)) →
    (z : Forest) → Noted z (onto a g) → P (body_of z)
header_noted P End h g law z n = law z n
header_noted P (Name s a) h g law _ (a_name {f = y} n) = header_noted P a h g law y n
header_noted P (Name s a) h g law _ (a_noted_name {f = y} n) = header_noted P a h g law y n
header_noted P (Group (Word w x) a) h g law _ (a_group {f = z} (a_word {f = y} m) n) = rw h.0 (header_noted P a h.1 g law z n)
header_noted P _ h g law z n = absurd h
