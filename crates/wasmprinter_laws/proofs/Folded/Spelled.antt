-- The text of a head is printed in place of its pieces, which read by themselves.
use Rattle.std.proofs.Common.{◌≡◌, ℕ, true, List, [], ◌∷◌, ◌++◌, refl, sym, ap, ◌∙◌, subst, append-nil}
use Rattle.wasmprinter_spec.specs.Options.{Options, IsBlank}
use Rattle.wasmprinter_spec.specs.Token.{tokens}
use Rattle.wasmprinter_spec.specs.Table.{word_of_row}
use Rattle.wasmprinter_spec.specs.Piece as piece
use Rattle.wasmprinter_spec.specs.Piece.{Piece, OpenPlain}
use Rattle.wasmprinter_spec.specs.Layout.Operators.{Form}
use Rattle.wasmprinter_spec.specs.Layout.Folded.{head_text}
use Rattle.wasmprinter_spec.specs.Folding.Code.{Item}
use Rattle.wasmprinter_spec.specs.Folding.Tree.{Of, ThenCase, ElseCase, Nodes}
use Rattle.wasmprinter_laws.proofs.Tokens.Runs.{is_word}
use Rattle.wasmprinter_laws.proofs.Tokens.Pieces.{all_text, text_of-all_calls}
use Rattle.wasmprinter_laws.proofs.Tokens.Respelled.{Respelled, all_lexed, pieces_lexed, first_spelled}
use Rattle.wasmprinter_laws.proofs.Tokens.Writes.{writes_joined, pieces_tokens}
use Rattle.wasmprinter_laws.proofs.Tabled.{HasRow, row_for}
use Rattle.wasmprinter_laws.proofs.Folded.OneLine.{line_same}
use Rattle.wasmprinter_laws.proofs.Folded.Items.{word as item_word, rest, IsPrinted}
use Rattle.wasmprinter_laws.proofs.Folded.Rows.{IsRow, no_nodes, a_plain, a_block, an_if, an_if_else}
use Rattle.wasmprinter_laws.proofs.Folded.Texts.{opened, HeadSpelled, AreSpelled}

-- The word of an operator is a word.
pub word_is_word : {form : Form} (x : Item) → IsPrinted form x → is_word (item_word x) ≡ true
word_is_word x p =
    let r : HasRow x.operator.value = row_for x.operator.value p.listed in
    ap is_word (ap word_of_row r.found) ∙ r.is_its_word

module _ (o : Options) (spaces : IsBlank o.indent) (form : Form) where
  -- Under these options, the text is that of a parenthesis and of the pieces.
  opened_text : (x : Item) → IsPrinted form x → 40 ∷ head_text o (Of x) ≡ all_text o (OpenPlain (item_word x) ∷ rest x)
  opened_text x p =
      ap (λ t. 40 ∷ t) (text_of-all_calls o x.pieces ∙ ap (all_text o) p.pieces)

  operator_text : (x : Item) (p : IsPrinted form x) (q : Options) → piece.text q (OpenPlain (head_text o (Of x))) ++ [] ≡ all_text q (OpenPlain (item_word x) ∷ rest x)
  operator_text x p q =
      append-nil (piece.text q (OpenPlain (head_text o (Of x))))
      ∙ ap (λ t. 40 ∷ t) (append-nil (head_text o (Of x)) ∙ text_of-all_calls o x.pieces ∙ line_same o q p.line ∙ ap (all_text q) p.pieces)

  operator_tokens : (x : Item) → IsPrinted form x → tokens (40 ∷ head_text o (Of x)) ≡ all_lexed (OpenPlain (item_word x) ∷ rest x)
  operator_tokens x p =
      let w : List ℕ = item_word x in
      let ps : List Piece = OpenPlain w ∷ p.writes.printed in
      let s : Respelled (OpenPlain w ∷ rest x) ps = first_spelled (OpenPlain w) p.writes.spelled in
      ap tokens (opened_text x p ∙ s.text o ∙ sym (text_of-all_calls o ps))
      ∙ pieces_tokens o spaces ps (writes_joined p.writes) (word_is_word x p, p.writes.are)
      ∙ sym (s.tokens ∙ pieces_lexed ps (word_is_word x p, p.writes.are))

  operator_spelled : (x : Item) → IsPrinted form x → HeadSpelled o (Of x)
  operator_spelled x p = subst (λ ps. Respelled (OpenPlain (head_text o (Of x)) ∷ []) (opened ps)) (sym p.pieces) (record {
    text = operator_text x p;
    tokens = append-nil (tokens (40 ∷ head_text o (Of x))) ∙ operator_tokens x p;
  })

  then_spelled : (x : Item) → HeadSpelled o (ThenCase x)
  then_spelled x = record { text = λ q. refl; tokens = refl }

  else_spelled : (x : Item) → HeadSpelled o (ElseCase x)
  else_spelled x = record { text = λ q. refl; tokens = refl }

  pub row_spelled : (f : Nodes) → IsRow form f → AreSpelled o f
  row_spelled f no_nodes = tt
  row_spelled f (a_plain b x r held e p rb rh) = (operator_spelled x p, row_spelled b rb, row_spelled held rh)
  row_spelled f (a_block b x r held e p rb rh n) = (operator_spelled x p, row_spelled b rb, row_spelled held rh)
  row_spelled f (an_if b x r given q held e p rb rg rh n) =
      (operator_spelled x p, row_spelled b rb, (then_spelled x, row_spelled given rg, row_spelled held rh))
  row_spelled f (an_if_else b x r given q held y t other e p rb rg rh n i py ro m) =
      (operator_spelled x p, row_spelled b rb, (else_spelled y, (then_spelled x, row_spelled given rg, row_spelled held rh), row_spelled other ro))
