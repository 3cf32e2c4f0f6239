-- The layout of operators, one by one.
use Rattle.std.specs.Prelude.{◌≡◌, ℕ, ◌+◌, ◌-◌, ◌<◌, ◌^◌, List, [], ◌∷◌, ◌++◌, length, Bool, true, false}
use Rattle.std.proofs.Common.{refl, ap, ap₂, ◌∙◌, arith, subst}
use Rattle.wasmprinter_spec.specs.Grammar.{Placed}
use Rattle.wasmprinter_spec.specs.Row.{Role}
use Rattle.wasmprinter_spec.specs.Operator.{Operator}
use Rattle.wasmprinter_spec.specs.Table.{role_of}
use Rattle.wasmprinter_spec.specs.Names.{Names}
use Rattle.wasmprinter_spec.specs.Labels.{Label, labels_after, count_after}
use Rattle.wasmprinter_spec.specs.Customs.Hints.{Hint, next_hint, hints_after}
use Rattle.wasmprinter_spec.specs.Piece.{Piece}
use Rattle.wasmprinter_spec.specs.Layout.Operators.{Setting, level, before_word, operator_pieces, hint_pieces, operators_pieces}
use Rattle.wasmprinter_print.specs.OutputLaws.{AllThen}
use Rattle.wasmprinter_ops.specs.Operators.{placed_view, pairs}
use Rattle.wasmprinter_ops.proofs.Pairs.{first-pair, no-pair}
use Rattle.wasmprinter_flat.specs.OpenLabels.LabelState.{LabelState, names_of, own_label, at_start_again, after_operator}
use Rattle.wasmprinter_flat.specs.Settings.{word_pieces}
use Rattle.wasmprinter_flat.proofs.Depths.{after-length, after-count}

-- The pieces of an operator are those that start it, at the level of its role, and those of its word and
-- immediates.
operator-out : (s : Setting) (first : Bool) (own : Label) (xs : List Label) (place : ℕ) (o : Operator) (role : Role) (depth : ℕ) →
    role ≡ role_of o.opcode → depth ≡ level role (length xs) →
    operator_pieces s first own xs (record { place = place; value = o })
    ≡ before_word s.form first place (s.nesting + depth) ++ word_pieces s own xs o
unfolding operator_pieces
operator-out s first own xs place o role depth r e = rw (e, r) refl

-- Starting an operator, and then writing its word and immediates, writes the operator.
pub operator_written : {S : Type 0} (wrote : S → S → List Piece → Type 0) → AllThen wrote → {u v w : S} (s : Setting) (first : Bool) (own : Label) (xs : List Label)
    (place : ℕ) (o : Operator) (role : Role) (depth : ℕ) → role ≡ role_of o.opcode → depth ≡ level role (length xs) →
    wrote u v (before_word s.form first place (s.nesting + depth)) → wrote v w (word_pieces s own xs o) →
    wrote u w (operator_pieces s first own xs (record { place = place; value = o }))
operator_written wrote then {u} {v} {w} s first own xs place o role depth r e start word =
    rw (operator-out s first own xs place o role depth r e) (then u v w _ _ start word)

operators-of : (s : Setting) (hs : List (Placed Hint)) (first : Bool) (n : ℕ) (xs : List Label) (os rest : List (Placed Operator)) (o : Placed Operator) → os ≡ o ∷ rest →
    operators_pieces s hs first n xs os
    ≡ hint_pieces (s.nesting + length xs) (next_hint (o.place - s.body) hs)
    ++ (operator_pieces s first (s.names.labels s.function n (length xs)) xs o
    ++ operators_pieces s (hints_after (o.place - s.body) hs) false (count_after (role_of o.value.opcode) n)
    (labels_after (role_of o.value.opcode) (s.names.labels s.function n (length xs)) xs) rest)
unfolding operators_pieces
operators-of s hs first n xs os rest o e = ap (λ ps. operators_pieces s hs first n xs ps) e

operators-nil : (s : Setting) (hs : List (Placed Hint)) (first : Bool) (n : ℕ) (xs : List Label) (os : List (Placed Operator)) → os ≡ [] →
    operators_pieces s hs first n xs os ≡ []
unfolding operators_pieces
operators-nil s hs first n xs os e = ap (λ ps. operators_pieces s hs first n xs ps) e

-- The identifiers and the function of the state are those of the setting.
pub record Fits (s : Setting) (l : LabelState) : Type 0 where
  pub names : names_of l ≡ s.names
  pub function : l.function ≡ s.function

-- The label of the block that the next operator may open is the one of the setting.
pub own-fits : (s : Setting) (l : LabelState) → Fits s l → own_label l ≡ s.names.labels s.function l.count (length l.labels)
own-fits s l f =
    ap (λ (names : Names). names.labels l.function l.count (length l.labels)) f.names ∙ ap (λ function. s.names.labels function l.count (length l.labels)) f.function

-- The pieces of the next operator under the identifiers of the state are those under the setting.
pub operator-fits : (s : Setting) (l : LabelState) (first : Bool) (o : Placed Operator) → Fits s l →
    operator_pieces (record s { names = names_of l }) first (own_label l) l.labels o
    ≡ operator_pieces s first (s.names.labels s.function l.count (length l.labels)) l.labels o
operator-fits s l first o f =
    ap₂ (λ (names : Names) (own : Label). operator_pieces (record s { names = names }) first own l.labels o) f.names (own-fits s l f)

-- The loop invariant: whoever writes the operators of `rest`, with the hints of `left`, has written all. Even if each
-- remaining operator opens a block, the number of open blocks stays below 2^64.
pub record Progress {S : Type 0} (wrote : S → S → List Piece → Type 0) (old new : S) (s : Setting) (start : LabelState) (hints : List (Placed Hint)) (all rest : List (Placed Operator)) (left : List (Placed Hint)) (first : Bool) (l : LabelState) : Type 0 where
  pub writes : (t : S) → wrote new t (operators_pieces s left first l.count l.labels rest) → wrote old t (operators_pieces s hints true 0 [] all)
  pub item_names : l.item_names ≡ start.item_names
  pub synthesizes : l.synthesizes ≡ start.synthesizes
  pub fits : Fits s l
  pub counted : l.count + length rest < 2 ^ 64
  pub nested : length l.labels + length rest < 2 ^ 64

-- The invariant holds at the start, before anything is written.
pub starts : {S : Type 0} (wrote : S → S → List Piece → Type 0) (a : S) (s : Setting) (start l : LabelState) (hints : List (Placed Hint)) (all os : List (Placed Operator)) →
    l ≡ at_start_again s.function start → names_of start ≡ s.names → os ≡ all → length all < 2 ^ 64 → Progress wrote a a s start hints all os hints true l
starts {S} wrote a s start l hints all os b n e h = rw b (record {
  writes = λ t w. subst (λ (ps : List (Placed Operator)). wrote a t (operators_pieces s hints true 0 [] ps)) e w;
  item_names = refl;
  synthesizes = refl;
  fits = record { names = n; function = refl };
  counted = omega (arith, h, ap length e);
  nested = omega (arith, h, ap length e);
})

module _ {S : Type 0} (wrote : S → S → List Piece → Type 0) {a t : S} {s : Setting} {start : LabelState} {hints : List (Placed Hint)} {all os : List (Placed Operator)} {left : List (Placed Hint)} {first : Bool} {l : LabelState} (p : Progress wrote a t s start hints all os left first l) where
  -- If an operator is left, the number of open blocks plus 1 is below 2^64.
  pub has_room : (rest : List (Placed Operator)) (x : ℕ × Operator) → pairs os ≡ x ∷ pairs rest → length l.labels + 1 < 2 ^ 64
  has_room rest x e = omega (arith, p.nested, ap length (first-pair os rest x e))

  pub has_count : (rest : List (Placed Operator)) (x : ℕ × Operator) → pairs os ≡ x ∷ pairs rest → l.count + 1 < 2 ^ 64
  has_count rest x e = omega (arith, p.counted, ap length (first-pair os rest x e))

  -- If no operator is left, all were written.
  pub all_written : wrote t t [] → pairs os ≡ [] → wrote a t (operators_pieces s hints true 0 [] all)
  all_written none e = p.writes t (rw (operators-nil s left first l.count l.labels os (no-pair os e)) none)

  -- Whoever writes the hint of the next operator, that operator and the others has written all.
  writes_next : (rest : List (Placed Operator)) (x : ℕ × Operator) → pairs os ≡ x ∷ pairs rest → (v : S) →
      wrote t v
      (hint_pieces (s.nesting + length l.labels) (next_hint (x.0 - s.body) left)
      ++ (operator_pieces (record s { names = names_of l }) first (own_label l) l.labels (placed_view x)
      ++ operators_pieces s (hints_after (x.0 - s.body) left) false (count_after (role_of x.1.opcode) l.count)
      (labels_after (role_of x.1.opcode) (own_label l) l.labels) rest)) →
      wrote a v (operators_pieces s hints true 0 [] all)
  writes_next rest x e v w =
      p.writes v
      (rw (operators-of s left first l.count l.labels os rest (placed_view x) (first-pair os rest x e))
      (rw (operator-fits s l first (placed_view x) p.fits, own-fits s l p.fits) at w))

  -- After the hint of the next operator and that operator, whoever writes the others has written all.
  pub after_next : AllThen wrote → {u k : S} (rest : List (Placed Operator)) (x : ℕ × Operator) → pairs os ≡ x ∷ pairs rest →
      wrote t u (hint_pieces (s.nesting + length l.labels) (next_hint (x.0 - s.body) left)) →
      wrote u k (operator_pieces (record s { names = names_of l }) first (own_label l) l.labels (placed_view x)) → (v : S) →
      wrote k v (operators_pieces s (hints_after (x.0 - s.body) left) false (count_after (role_of x.1.opcode) l.count)
      (labels_after (role_of x.1.opcode) (own_label l) l.labels) rest) →
      wrote a v (operators_pieces s hints true 0 [] all)
  after_next then {u} {k} rest x e hint operator v w =
      writes_next rest x e v (then t u v _ _ hint (then u k v _ _ operator w))

  -- After the hint and the next operator are written, the invariant holds for the others.
  pub goes_on : AllThen wrote → {u w : S} (rest : List (Placed Operator)) (x : ℕ × Operator) (role : Role) (k : LabelState) (after : List (Placed Hint)) → pairs os ≡ x ∷ pairs rest →
      role ≡ role_of x.1.opcode → k ≡ after_operator role l → after ≡ hints_after (x.0 - s.body) left →
      wrote t u (hint_pieces (s.nesting + length l.labels) (next_hint (x.0 - s.body) left)) →
      wrote u w (operator_pieces (record s { names = names_of l }) first (own_label l) l.labels (placed_view x)) →
      Progress wrote a w s start hints all rest after false k
  goes_on then rest x role k after e r b h hint operator = rw (b, r, h) (record {
    writes = after_next then rest x e hint operator;
    item_names = p.item_names;
    synthesizes = p.synthesizes;
    fits = record { names = p.fits.names; function = p.fits.function };
    counted = omega (arith, p.counted, ap length (first-pair os rest x e), after-count (role_of x.1.opcode) l.count);
    nested = omega (arith, p.nested, ap length (first-pair os rest x e), after-length (role_of x.1.opcode) (own_label l) l.labels);
  })
