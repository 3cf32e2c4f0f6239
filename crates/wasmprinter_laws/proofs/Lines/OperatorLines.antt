-- Operators in one line begin no line. Over several lines, each operator begins one, with another line before it
-- if it takes a hint.
use Rattle.std.proofs.Common.{◌≡◌, ℕ, ◌+◌, ◌-◌, List, [], ◌∷◌, ◌++◌, Bool, true, false, Option, Some, None, refl, sym, ap, ap₂, subst, ◌∙◌, length}
use Rattle.std.specs.List.{flat_map}
use Rattle.std.proofs.lemmas.List.Concat.{flat_map-append}
use Rattle.wasmprinter_spec.specs.Grammar.{Placed}
use Rattle.wasmprinter_spec.specs.Operator.{Operator}
use Rattle.wasmprinter_spec.specs.Row.{Role}
use Rattle.wasmprinter_spec.specs.Table.{word_of, role_of, shape_of}
use Rattle.wasmprinter_spec.specs.Labels as labels
use Rattle.wasmprinter_spec.specs.Labels.{labels_after, count_after, labels_outside, labels_inside}
use Rattle.wasmprinter_spec.specs.Customs.Hints.{Hint, next_hint, hints_after}
use Rattle.wasmprinter_spec.specs.Piece.{Piece, Word}
use Rattle.wasmprinter_spec.specs.Layout.Operators.{Form, OverLines, InLine, Setting, pieces_by, level, before_word, operator_pieces, hint_pieces, operators_pieces, expression_pieces}
use Rattle.wasmprinter_spec.proofs.OneLine.{starts, IsOneLine, nothing_stays, both_stay, then_stay, alone_stays}
use Rattle.wasmprinter_spec.proofs.ImmediateLines.{by_shape_stay}

-- ---- operators in one line

before_stays : (first : Bool) (place nesting : ℕ) → IsOneLine (before_word InLine first place nesting)
before_stays true place nesting = nothing_stays
before_stays false place nesting = alone_stays refl

module _ (s : Setting) (line : s.form ≡ InLine) where
  operator_stays : (first : Bool) (own : labels.Label) (xs : List labels.Label) (o : Placed Operator) → IsOneLine (operator_pieces s first own xs o)
  unfolding operator_pieces
  operator_stays first own xs o =
      let role : Role = role_of o.value.opcode in
      both_stay (subst (λ (f : Form). IsOneLine (before_word f first o.place (s.nesting + level role (length xs)))) (sym line) (before_stays first o.place (s.nesting + level role (length xs))))
      (then_stay refl (by_shape_stay s (labels_inside role xs) (labels_outside role xs) own (shape_of o.value.opcode) o.value.immediates))

  operators_stay : (first : Bool) (n : ℕ) (xs : List labels.Label) (os : List (Placed Operator)) → IsOneLine (operators_pieces s [] first n xs os)
  unfolding operators_pieces
  operators_stay first n xs [] = nothing_stays
  operators_stay first n xs (o ∷ os) =
      let role : Role = role_of o.value.opcode in
      let own : labels.Label = s.names.labels s.function n (length xs) in
      both_stay nothing_stays (both_stay (operator_stays first own xs o) (operators_stay false (count_after role n) (labels_after role own xs) os))

  pub expression_stays : (os : List (Placed Operator)) → IsOneLine (expression_pieces s os)
  unfolding expression_pieces
  expression_stays os = operators_stay true 0 [] os

-- ---- operators over several lines

-- The line of a hint
abbrev pub hint_lines : Option (Placed Hint) → List (Option ℕ)
hint_lines None = []
hint_lines (Some h) = Some h.place ∷ []

-- The lines of operators with these hints, in a body that starts at this place
abbrev pub operator_lines : ℕ → List (Placed Hint) → List (Placed Operator) → List (Option ℕ)
operator_lines body hs [] = []
operator_lines body hs (o ∷ os) = hint_lines (next_hint (o.place - body) hs) ++ (Some o.place ∷ operator_lines body (hints_after (o.place - body) hs) os)

hint_begins : (nesting : ℕ) (h : Option (Placed Hint)) → flat_map starts (hint_pieces nesting h) ≡ hint_lines h
hint_begins nesting None = refl
hint_begins nesting (Some h) = refl

module _ (s : Setting) (over : s.form ≡ OverLines) where
  operator_begins : (first : Bool) (own : labels.Label) (xs : List labels.Label) (o : Placed Operator) → flat_map starts (operator_pieces s first own xs o) ≡ Some o.place ∷ []
  unfolding operator_pieces
  operator_begins first own xs o =
      let role : Role = role_of o.value.opcode in
      let nesting : ℕ = s.nesting + level role (length xs) in
      let rest : List Piece = pieces_by s (labels_inside role xs) (labels_outside role xs) own (shape_of o.value.opcode) o.value.immediates in
      let stays : IsOneLine rest = by_shape_stay s (labels_inside role xs) (labels_outside role xs) own (shape_of o.value.opcode) o.value.immediates in
      ap (λ (f : Form). flat_map starts (before_word f first o.place nesting ++ (Word (word_of o.value.opcode) ∷ rest))) over
      ∙ ap (λ (ls : List (Option ℕ)). Some o.place ∷ ls) stays.begins

  pub operators_begin : (hs : List (Placed Hint)) (first : Bool) (n : ℕ) (xs : List labels.Label) (os : List (Placed Operator)) →
      flat_map starts (operators_pieces s hs first n xs os) ≡ operator_lines s.body hs os
  unfolding operators_pieces
  operators_begin hs first n xs [] = refl
  operators_begin hs first n xs (o ∷ os) =
      let role : Role = role_of o.value.opcode in
      let own : labels.Label = s.names.labels s.function n (length xs) in
      let offset : ℕ = o.place - s.body in
      let hint : List Piece = hint_pieces (s.nesting + length xs) (next_hint offset hs) in
      let here : List Piece = operator_pieces s first own xs o in
      let rest : List Piece = operators_pieces s (hints_after offset hs) false (count_after role n) (labels_after role own xs) os in
      flat_map-append starts hint (here ++ rest)
      ∙ ap₂ (λ (ls ms : List (Option ℕ)). ls ++ ms) (hint_begins (s.nesting + length xs) (next_hint offset hs))
      (flat_map-append starts here rest
      ∙ ap₂ (λ (ls ms : List (Option ℕ)). ls ++ ms) (operator_begins first own xs o) (operators_begin (hints_after offset hs) false (count_after role n) (labels_after role own xs) os))
