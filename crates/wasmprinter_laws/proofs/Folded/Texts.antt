-- The text of folded operators is that of pieces that read by themselves: the pieces of each operator's immediates,
-- and the annotation of each hint.
use Rattle.std.proofs.Common.{◌≡◌, ℕ, ◌+◌, ◌==◌, Bool, true, false, ◌&&◌, true≢false, List, [], ◌∷◌, ◌++◌, Option, Some, None, refl, sym, ap, ◌∙◌, append_assoc, append-nil, codes}
use Rattle.std.proofs.lemmas.Bool.{and_parts, and_from, or_parts}
use Rattle.std.specs.Option.{is_none}
use Rattle.wasmprinter_spec.specs.Grammar.{Placed}
use Rattle.wasmprinter_spec.specs.Customs.Hints.{Hint}
use Rattle.wasmprinter_spec.specs.Options.{Options, IsBlank}
use Rattle.wasmprinter_spec.specs.Piece.{Piece, Word, OpenPlain, CloseParen, LineComment, PlainLineComment, HintAnnotation, text}
use Rattle.wasmprinter_spec.specs.Layout.Operators.{Form, before_word}
use Rattle.wasmprinter_spec.specs.Layout.Folded.{head_place, head_text, head_hint, has_line_comment, comment_end, node_hint, node_pieces}
use Rattle.wasmprinter_spec.specs.Folding.Tree.{Head, Of, ThenCase, ElseCase, Nodes, Nil, Snoc, is_nil}
use Rattle.wasmprinter_laws.proofs.Tokens.Pieces.{Edge, Free, Bound, Opened, Ended, leaves, may_follow, pieces_follow, all_text}
use Rattle.wasmprinter_laws.proofs.Tokens.Respelled.{Respelled, same_spelled, equal_spelled, both_spelled, then_spelled}
use Rattle.wasmprinter_laws.proofs.Tokens.Writes.{pieces_tokens}

-- ---- the pieces

-- The pieces with a parenthesis before their first word
abbrev pub opened : List Piece → List Piece
opened (Word w ∷ ps) = OpenPlain w ∷ ps
opened ps = OpenPlain [] ∷ ps

abbrev pub head_pieces : Head → List Piece
head_pieces (Of x) = x.pieces
head_pieces (ThenCase x) = Word (codes "then") ∷ []
head_pieces (ElseCase x) = Word (codes "else") ∷ []

abbrev pub whole_hint : Form → Bool → ℕ → ℕ → Option (Placed Hint) → List Piece
whole_hint form first place nesting None = []
whole_hint form first place nesting (Some h) = before_word form first place nesting ++ HintAnnotation h.value.taken ∷ []

abbrev pub whole_pieces : Options → Form → Bool → ℕ → Nodes → List Piece
whole_pieces o form first nesting Nil = []
whole_pieces o form first nesting (Snoc before head results held) =
    let place : ℕ = head_place head in
    let s : List ℕ = head_text o head in
    let leads : Bool = first && is_nil before in
    whole_pieces o form first nesting before
    ++ (whole_hint form leads place nesting (head_hint head)
    ++ (before_word form (leads && is_none (head_hint head)) place nesting
    ++ (opened (head_pieces head) ++ (comment_end (is_nil held) s place nesting ++ (whole_pieces o form false (nesting + 1) held ++ (CloseParen ∷ []))))))

-- ---- the pieces are printed as the nodes are

module _ (o : Options) where
  -- A parenthesis with the text of a head is printed as the pieces of the head.
  abbrev pub HeadSpelled : Head → Type 0
  HeadSpelled h = Respelled (OpenPlain (head_text o h) ∷ []) (opened (head_pieces h))

  abbrev pub AreSpelled : Nodes → Type 0
  AreSpelled Nil = Unit {0}
  AreSpelled (Snoc b h r held) = HeadSpelled h × AreSpelled b × AreSpelled held

  module _ (spaces : IsBlank o.indent) where
    note_spelled : (taken : Bool) → Respelled (Word (text o (HintAnnotation taken)) ∷ []) (HintAnnotation taken ∷ [])
    note_spelled taken = record {
      text = λ p. ap (λ t. t ++ []) (append-nil (text o (HintAnnotation taken)));
      tokens = ap (λ t. t ++ []) (pieces_tokens o spaces (HintAnnotation taken ∷ []) refl (tt, tt));
    }

    hint_spelled : (form : Form) (first : Bool) (place nesting : ℕ) (h : Option (Placed Hint)) →
        Respelled (node_hint o form first place nesting h) (whole_hint form first place nesting h)
    hint_spelled form first place nesting None = same_spelled
    hint_spelled form first place nesting (Some h) = both_spelled same_spelled (note_spelled h.value.taken)

    pub nodes_spelled : (form : Form) (first : Bool) (nesting : ℕ) (f : Nodes) → AreSpelled f →
        Respelled (node_pieces o false form first nesting f) (whole_pieces o form first nesting f)
    unfolding node_pieces
    nodes_spelled form first nesting Nil k = same_spelled
    nodes_spelled form first nesting (Snoc b h r held) (own, before, inside) =
        let place : ℕ = head_place h in
        let leads : Bool = first && is_nil b in
        let end : List Piece = comment_end (is_nil held) (head_text o h) place nesting in
        let word : List Piece = before_word form (leads && is_none (head_hint h)) place nesting in
        let whole_inside : List Piece = whole_pieces o form false (nesting + 1) held in
        let whole_group : List Piece = opened (head_pieces h) ++ (end ++ (whole_inside ++ (CloseParen ∷ []))) in
        let hint_whole : List Piece = whole_hint form leads place nesting (head_hint h) in
        let whole_before : List Piece = whole_pieces o form first nesting b in
        let inner : Respelled ((end ++ node_pieces o false form false (nesting + 1) held) ++ (CloseParen ∷ [])) (end ++ (whole_inside ++ (CloseParen ∷ []))) =
        then_spelled
        (both_spelled (both_spelled (same_spelled {ps = end}) (nodes_spelled form false (nesting + 1) held inside))
        (same_spelled {ps = CloseParen ∷ []}))
        (equal_spelled (append_assoc end whole_inside (CloseParen ∷ []))) in
        then_spelled
        (both_spelled
        (both_spelled (both_spelled (nodes_spelled form first nesting b before) (hint_spelled form leads place nesting (head_hint h)))
        (same_spelled {ps = word}))
        (both_spelled own inner))
        (equal_spelled (append_assoc (whole_before ++ hint_whole) word whole_group ∙ append_assoc whole_before hint_whole (word ++ whole_group)))

-- ---- without two adjacent semicolons, there is no line comment

comment_after : (a : ℕ) (l : List ℕ) → has_line_comment (a ∷ l) ≡ false → has_line_comment l ≡ false
comment_after a [] h = refl
comment_after a (b ∷ cs) h = (or_parts ((a == 59) && (b == 59)) (has_line_comment (b ∷ cs)) h).1

pub no_comment_after : (s t : List ℕ) → has_line_comment (s ++ t) ≡ false → has_line_comment t ≡ false
no_comment_after [] t h = h
no_comment_after (a ∷ s) t h = no_comment_after s t (comment_after a (s ++ t) h)

-- Reports whether a parenthesis may close there.
abbrev pub allows_close_paren : Edge → Bool
allows_close_paren Ended = false
allows_close_paren _ = true

leaves_close_paren : (o : Options) (p : Piece) (rest : List ℕ) → has_line_comment (text o p ++ rest) ≡ false → allows_close_paren (leaves p) ≡ true
leaves_close_paren o (LineComment s) rest h = absurd (true≢false h)
leaves_close_paren o (PlainLineComment s) rest h = absurd (true≢false h)
leaves_close_paren o _ rest h = refl

pub close_paren_joins : (o : Options) (a : Edge) (ps qs : List Piece) → allows_close_paren a ≡ true → has_line_comment (all_text o ps) ≡ false → pieces_follow a ps ≡ true →
    pieces_follow Free qs ≡ true → pieces_follow a (ps ++ CloseParen ∷ qs) ≡ true
close_paren_joins o Free [] qs m n j g = g
close_paren_joins o Bound [] qs m n j g = g
close_paren_joins o Opened [] qs m n j g = g
close_paren_joins o Ended [] qs m n j g = absurd (true≢false (sym m))
close_paren_joins o a (p ∷ ps) qs m n j g =
    let parts : (may_follow a p ≡ true) × (pieces_follow (leaves p) ps ≡ true) = and_parts (may_follow a p) (pieces_follow (leaves p) ps) j in
    and_from (may_follow a p) (pieces_follow (leaves p) (ps ++ CloseParen ∷ qs)) parts.0
    (close_paren_joins o (leaves p) ps qs (leaves_close_paren o p (all_text o ps) n) (no_comment_after (text o p) (all_text o ps) n) parts.1 g)
