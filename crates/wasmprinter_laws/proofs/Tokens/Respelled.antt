-- Replacing pieces by other pieces: both have the same text under all options, and the tokens of the texts of the
-- pieces are the same.
use Rattle.std.proofs.Common.{◌≡◌, List, [], ◌∷◌, ◌++◌, refl, sym, ap, ap₂, subst, ◌∙◌, append_assoc, append-nil}
use Rattle.wasmprinter_spec.specs.Character.{class}
use Rattle.wasmprinter_spec.specs.Options.{Options}
use Rattle.wasmprinter_spec.specs.Token.{Token, tokens, lex}
use Rattle.wasmprinter_spec.specs.Piece.{Piece, Word, OpenPlain, text, piece_tokens, all_tokens}
use Rattle.wasmprinter_laws.proofs.Tokens.Runs.{word_lexes, open_lexes}
use Rattle.wasmprinter_laws.proofs.Tokens.Pieces.{IsPiece, ArePieces, all_text}

-- The tokens of a piece. For a word, or a parenthesis with a word, these are the tokens of its text, which may be
-- more than one word.
abbrev pub lexed : Piece → List Token
lexed (Word w) = tokens w
lexed (OpenPlain w) = tokens (40 ∷ w)
lexed p = piece_tokens p

abbrev pub all_lexed : List Piece → List Token
all_lexed [] = []
all_lexed (p ∷ ps) = lexed p ++ all_lexed ps

pub all_lexed-append : (ps qs : List Piece) → all_lexed (ps ++ qs) ≡ all_lexed ps ++ all_lexed qs
all_lexed-append [] qs = refl
all_lexed-append (p ∷ ps) qs = ap (λ t. lexed p ++ t) (all_lexed-append ps qs) ∙ sym (append_assoc (lexed p) (all_lexed ps) (all_lexed qs))

pub all_text-append : (o : Options) (ps qs : List Piece) → all_text o (ps ++ qs) ≡ all_text o ps ++ all_text o qs
all_text-append o [] qs = refl
all_text-append o (p ∷ ps) qs = ap (λ t. text o p ++ t) (all_text-append o ps qs) ∙ sym (append_assoc (text o p) (all_text o ps) (all_text o qs))

-- If the contents of a piece are as its kind requires, these are the tokens of the piece.
piece_lexed : (p : Piece) → IsPiece p → lexed p ≡ piece_tokens p
unfolding lex class
piece_lexed (Word w) h = ap tokens (sym (append-nil w)) ∙ word_lexes w [] h refl
piece_lexed (OpenPlain w) h = ap (λ t. tokens (40 ∷ t)) (sym (append-nil w)) ∙ open_lexes w [] h refl
piece_lexed _ h = refl

pub pieces_lexed : (ps : List Piece) → ArePieces ps → all_lexed ps ≡ all_tokens ps
pieces_lexed [] h = refl
pieces_lexed (p ∷ ps) h = ap₂ (λ a b. a ++ b) (piece_lexed p h.0) (pieces_lexed ps h.1)

-- The pieces `ps` have the same text as the pieces `rs`, and the same tokens.
pub record Respelled (ps rs : List Piece) : Type 0 where
  pub text : (o : Options) → all_text o ps ≡ all_text o rs
  pub tokens : all_lexed ps ≡ all_lexed rs

pub same_spelled : {ps : List Piece} → Respelled ps ps
same_spelled = record { text = λ o. refl; tokens = refl }

pub equal_spelled : {ps rs : List Piece} → ps ≡ rs → Respelled ps rs
equal_spelled {ps} e = subst (Respelled ps) e same_spelled

pub first_spelled : {ps rs : List Piece} (p : Piece) → Respelled ps rs → Respelled (p ∷ ps) (p ∷ rs)
first_spelled p s = record { text = λ o. ap (λ t. text o p ++ t) (s.text o); tokens = ap (λ t. lexed p ++ t) s.tokens }

pub both_spelled : {ps rs qs ts : List Piece} → Respelled ps rs → Respelled qs ts → Respelled (ps ++ qs) (rs ++ ts)
both_spelled {ps} {rs} {qs} {ts} s t = record {
  text = λ o. all_text-append o ps qs ∙ ap₂ (λ a b. a ++ b) (s.text o) (t.text o) ∙ sym (all_text-append o rs ts);
  tokens = all_lexed-append ps qs ∙ ap₂ (λ a b. a ++ b) s.tokens t.tokens ∙ sym (all_lexed-append rs ts);
}

pub then_spelled : {ps rs ts : List Piece} → Respelled ps rs → Respelled rs ts → Respelled ps ts
then_spelled s t = record { text = λ o. s.text o ∙ t.text o; tokens = s.tokens ∙ t.tokens }
