-- The pieces of nodes write the groups of the nodes.
use Rattle.std.proofs.Common.{◌≡◌, ℕ, ◌+◌, Bool, true, false, ◌&&◌, cond, List, [], ◌∷◌, ◌++◌, Option, Some, None, refl, sym, ap, ◌∙◌, subst, append_assoc, codes}
use Rattle.std.proofs.lemmas.Bool.{and_parts}
use Rattle.wasmprinter_spec.specs.Character.{class}
use Rattle.std.specs.Option.{is_none}
use Rattle.wasmprinter_spec.specs.Grammar.{Placed}
use Rattle.wasmprinter_spec.specs.Token.{open_paren, close_paren, word}
use Rattle.wasmprinter_spec.specs.Forest.{Forest, End, Word, Group, onto}
use Rattle.wasmprinter_spec.specs.Table.{word_of_row}
use Rattle.wasmprinter_spec.specs.Customs.Hints.{Hint}
use Rattle.wasmprinter_spec.specs.Options.{Options}
use Rattle.wasmprinter_spec.specs.Piece as piece
use Rattle.wasmprinter_spec.specs.Piece.{Piece, Break, OpenPlain, CloseParen, HintAnnotation}
use Rattle.wasmprinter_spec.specs.Layout.Operators.{Form, OverLines, InLine, before_word}
use Rattle.wasmprinter_spec.specs.Layout.Folded.{head_place, head_text, head_hint, has_line_comment, comment_end}
use Rattle.wasmprinter_spec.specs.Folding.Code.{Item}
use Rattle.wasmprinter_spec.specs.Folding.Tree.{Head, Of, ThenCase, ElseCase, Nodes, Nil, Snoc, is_nil}
use Rattle.wasmprinter_laws.proofs.Tokens.Grown.{onto-End}
use Rattle.wasmprinter_laws.proofs.Tokens.Noted.{no_items, a_word, a_group}
use Rattle.wasmprinter_laws.proofs.Tokens.Runs.{is_word}
use Rattle.wasmprinter_laws.proofs.Tokens.Pieces.{Edge, Free, Bound, leaves, may_follow, pieces_follow, all_text, text_of-all_calls}
use Rattle.wasmprinter_laws.proofs.Tokens.Respelled.{same_spelled, first_spelled, both_spelled}
use Rattle.wasmprinter_laws.proofs.Tokens.Writes.{Writes, WritesNoted, writes_joined, all_tokens-append, ArePieces-append, both_write, nothing_writes, free_writes, break_writes, hint_note_writes, after_anything, plain_group_then}
use Rattle.wasmprinter_laws.proofs.Tabled.{HasRow, row_for}
use Rattle.wasmprinter_laws.proofs.Operators.Forms.{after, may_end, ahead, before_writes, hint_items, goes_on, at_free}
use Rattle.wasmprinter_laws.proofs.Folded.Items.{word as item_word, rest, IsPrinted}
use Rattle.wasmprinter_laws.proofs.Folded.Rows.{IsRow, no_nodes, a_plain, a_block, an_if, an_if_else}
use Rattle.wasmprinter_laws.proofs.Folded.Reads.{head_items, row_items}
use Rattle.wasmprinter_laws.proofs.Folded.Texts.{opened, head_pieces, whole_hint, whole_pieces, no_comment_after, close_paren_joins}

-- ---- one group

loosened_list : (qs : List Piece) → pieces_follow Bound qs ≡ true → pieces_follow Free qs ≡ true
loosened_list [] h = refl
loosened_list (q ∷ qs) h = (and_parts (may_follow Bound q) (pieces_follow (leaves q) qs) h).1

-- A group of pieces that may be followed by a parenthesis
group_closes : {f k : Forest} (v : List ℕ) (ps : List Piece) → is_word v ≡ true → WritesNoted Bound ps Bound f k →
    WritesNoted Free (OpenPlain v ∷ (ps ++ (CloseParen ∷ []))) Bound (Group (Word v f) End) (Group (Word v k) End)
group_closes v ps h w = plain_group_then refl h w nothing_writes

-- A group of pieces whose text contains no line comment
text_closes : {f : Forest} {c : Edge} (o : Options) (v : List ℕ) (ps : List Piece) → is_word v ≡ true → has_line_comment (all_text o ps) ≡ false → Writes Bound ps c f →
    Writes Free (OpenPlain v ∷ (ps ++ (CloseParen ∷ []))) Bound (Group (Word v f) End)
text_closes o v ps h n w = record {
  printed = OpenPlain v ∷ (w.printed ++ (CloseParen ∷ []));
  spelled = first_spelled (OpenPlain v) (both_spelled w.spelled same_spelled);
  joins = λ qs g. subst (λ t. pieces_follow Bound t ≡ true) (sym (append_assoc w.printed (CloseParen ∷ []) qs))
      (close_paren_joins o Bound w.printed qs refl (ap has_line_comment (sym (w.spelled.text o)) ∙ n) (writes_joined w) (loosened_list qs g));
  are = (h, ArePieces-append w.printed (CloseParen ∷ []) w.are (tt, tt));
  whole = Group (Word v w.whole) End;
  tokens = ap (λ t. open_paren ∷ (word v ∷ t)) (all_tokens-append w.printed (CloseParen ∷ []) ∙ ap (λ t. t ++ close_paren ∷ []) w.tokens);
  noted = a_group (a_word w.noted) no_items;
  without = ap (λ g. Group (Word v g) End) w.without;
}

module _ (o : Options) (form : Form) where
  -- A group without inner nodes: if the text may contain a line comment, the line ends before the parenthesis.
  bare_group : {f : Forest} (v : List ℕ) (ps : List Piece) (s : List ℕ) (place nesting : ℕ) → is_word v ≡ true → (has_line_comment s ≡ false → has_line_comment (all_text o ps) ≡ false) →
      Writes Bound ps (after form) f → Writes Free (OpenPlain v ∷ (ps ++ (comment_end true s place nesting ++ (CloseParen ∷ [])))) Bound (Group (Word v (onto f End)) End)
  bare_group {f = f} v ps s place nesting h n w = by (has_line_comment s) refl
    where
      by : (t : Bool) → has_line_comment s ≡ t →
          Writes Free (OpenPlain v ∷ (ps ++ (cond t (Break (Some place) nesting ∷ []) [] ++ (CloseParen ∷ [])))) Bound (Group (Word v (onto f End)) End)
      by true e =
          let g : Forest = Group (Word v (onto f End)) End in
          subst (λ t. Writes Free (OpenPlain v ∷ t) Bound g) (append_assoc ps (Break (Some place) nesting ∷ []) (CloseParen ∷ []))
          (group_closes v (ps ++ Break (Some place) nesting ∷ []) h (both_write w (break_writes free_writes)))
      by false e = subst (λ g. Writes Free (OpenPlain v ∷ (ps ++ (CloseParen ∷ []))) Bound (Group (Word v g) End)) (sym (onto-End f)) (text_closes o v ps h (n e) w)

  -- The pieces of a row write its groups, if it is not empty.
  abbrev pub RowWrites : Bool → ℕ → Nodes → Type 0
  RowWrites first nesting Nil = Unit {0}
  RowWrites first nesting (Snoc b h r held) =
      WritesNoted (ahead form first) (whole_pieces o form first nesting (Snoc b h r held)) Bound (row_items false (Snoc b h r held)) (row_items true (Snoc b h r held))

  abbrev rest_of_group : List ℕ → ℕ → ℕ → Nodes → List Piece
  rest_of_group s place nesting held = comment_end (is_nil held) s place nesting ++ (whole_pieces o form false (nesting + 1) held ++ (CloseParen ∷ []))

  -- A group with its inner nodes
  group_by : {f : Forest} (v : List ℕ) (ps : List Piece) (s : List ℕ) (place nesting : ℕ) (held : Nodes) → is_word v ≡ true →
      (has_line_comment s ≡ false → has_line_comment (all_text o ps) ≡ false) → Writes Bound ps (after form) f → RowWrites false (nesting + 1) held →
      WritesNoted Free (OpenPlain v ∷ (ps ++ rest_of_group s place nesting held)) Bound
      (Group (Word v (onto f (row_items false held))) End) (Group (Word v (onto f (row_items true held))) End)
  group_by v ps s place nesting Nil h n w k = bare_group v ps s place nesting h n w
  group_by {f = f} v ps s place nesting (Snoc b g r inner) h n w k =
      let held : Nodes = Snoc b g r inner in
      let qs : List Piece = whole_pieces o form false (nesting + 1) held in
      subst (λ t. WritesNoted Free (OpenPlain v ∷ t) Bound (Group (Word v (onto f (row_items false held))) End) (Group (Word v (onto f (row_items true held))) End))
      (append_assoc ps qs (CloseParen ∷ [])) (group_closes v (ps ++ qs) h (both_write w (goes_on form k)))

  -- The pieces of the group of a node
  abbrev group_pieces : Head → ℕ → Nodes → List Piece
  group_pieces h nesting held = opened (head_pieces h) ++ rest_of_group (head_text o h) (head_place h) nesting held

  abbrev HeadWrites : Head → ℕ → Nodes → Type 0
  HeadWrites h nesting held =
      WritesNoted Free (group_pieces h nesting held) Bound (Group (head_items h (row_items false held)) End) (Group (head_items h (row_items true held)) End)

  operator_group : (x : Item) → IsPrinted form x → (nesting : ℕ) (held : Nodes) → RowWrites false (nesting + 1) held → HeadWrites (Of x) nesting held
  operator_group x p nesting held k =
      let w : List ℕ = item_word x in
      let r : HasRow x.operator.value = row_for x.operator.value p.listed in
      let is : is_word w ≡ true = ap is_word (ap word_of_row r.found) ∙ r.is_its_word in
      let tail : List Piece = rest_of_group (head_text o (Of x)) x.operator.place nesting held in
      let same : head_text o (Of x) ≡ all_text o (piece.Word w ∷ rest x) = text_of-all_calls o x.pieces ∙ ap (all_text o) p.pieces in
      subst (λ ps. WritesNoted Free (opened ps ++ tail) Bound (Group (head_items (Of x) (row_items false held)) End) (Group (head_items (Of x) (row_items true held)) End))
      (sym p.pieces)
      (group_by w (rest x) (head_text o (Of x)) x.operator.place nesting held is
      (λ n. no_comment_after (piece.text o (piece.Word w)) (all_text o (rest x)) (ap has_line_comment (sym same) ∙ n)) p.writes k)

  then_group : (x : Item) (nesting : ℕ) (held : Nodes) → RowWrites false (nesting + 1) held → HeadWrites (ThenCase x) nesting held
  unfolding class
  then_group x nesting held k = group_by (codes "then") [] (codes "then") x.operator.place nesting held refl (λ n. refl) (may_end form nothing_writes) k

  else_group : (x : Item) (nesting : ℕ) (held : Nodes) → RowWrites false (nesting + 1) held → HeadWrites (ElseCase x) nesting held
  unfolding class
  else_group x nesting held k = group_by (codes "else") [] (codes "else") x.operator.place nesting held refl (λ n. refl) (may_end form nothing_writes) k

  -- ---- rows of nodes

  -- A group with a hint and white space before it
  led : {ps : List Piece} {f k : Forest} (leads : Bool) (place nesting : ℕ) (h : Option (Placed Hint)) → WritesNoted Free ps Bound f k →
      WritesNoted (ahead form leads) (whole_hint form leads place nesting h ++ (before_word form (leads && is_none h) place nesting ++ ps)) Bound f (hint_items h k)
  led true place nesting None w = before_writes form true place nesting w
  led false place nesting None w = before_writes form false place nesting w
  led {ps = ps} {f = f} {k = k} leads place nesting (Some h) w =
      subst (λ t. WritesNoted (ahead form leads) t Bound f (hint_items (Some h) k))
      (sym (append_assoc (before_word form leads place nesting) (HintAnnotation h.value.taken ∷ []) (before_word form (leads && false) place nesting ++ ps)))
      (before_writes form leads place nesting (hint_note_writes refl (after_hint leads)))
    where
      after_hint : (t : Bool) → WritesNoted Free (before_word form (t && false) place nesting ++ ps) Bound f k
      after_hint true = at_free form false (before_writes form false place nesting w)
      after_hint false = at_free form false (before_writes form false place nesting w)

  -- Pieces that may follow an operator may follow a group.
  after_group : {ps : List Piece} {f k : Forest} → WritesNoted (ahead form false) ps Bound f k → WritesNoted Bound ps Bound f k
  after_group w = by form w
    where
      by : {ps : List Piece} {f k : Forest} (form : Form) → WritesNoted (ahead form false) ps Bound f k → WritesNoted Bound ps Bound f k
      by OverLines w = after_anything Bound w
      by InLine w = w

  one_more : (b : Nodes) (h : Head) (r : ℕ) (held : Nodes) (first : Bool) (nesting : ℕ) → RowWrites first nesting b → HeadWrites h nesting held →
      RowWrites first nesting (Snoc b h r held)
  one_more Nil h r held true nesting k g = led true (head_place h) nesting (head_hint h) g
  one_more Nil h r held false nesting k g = led false (head_place h) nesting (head_hint h) g
  one_more (Snoc c i q inner) h r held true nesting k g = both_write k (after_group (led false (head_place h) nesting (head_hint h) g))
  one_more (Snoc c i q inner) h r held false nesting k g = both_write k (after_group (led false (head_place h) nesting (head_hint h) g))

  pub row_writes : (f : Nodes) → IsRow form f → (first : Bool) (nesting : ℕ) → RowWrites first nesting f
  row_writes f no_nodes first nesting = tt
  row_writes f (a_plain b x r held e p rb rh) first nesting =
      one_more b (Of x) r held first nesting (row_writes b rb first nesting) (operator_group x p nesting held (row_writes held rh false (nesting + 1)))
  row_writes f (a_block b x r held e p rb rh n) first nesting =
      one_more b (Of x) r held first nesting (row_writes b rb first nesting) (operator_group x p nesting held (row_writes held rh false (nesting + 1)))
  row_writes f (an_if b x r given q held e p rb rg rh n) first nesting =
      let node : Nodes = Snoc given (ThenCase x) q held in
      let cases : RowWrites false (nesting + 1) node =
      one_more given (ThenCase x) q held false (nesting + 1) (row_writes given rg false (nesting + 1)) (then_group x (nesting + 1) held (row_writes held rh false (nesting + 1 + 1))) in
      one_more b (Of x) r node first nesting (row_writes b rb first nesting) (operator_group x p nesting node cases)
  row_writes f (an_if_else b x r given q held y t other e p rb rg rh n i py ro m) first nesting =
      let first_case : Nodes = Snoc given (ThenCase x) q held in
      let node : Nodes = Snoc first_case (ElseCase y) t other in
      let one : RowWrites false (nesting + 1) first_case =
      one_more given (ThenCase x) q held false (nesting + 1) (row_writes given rg false (nesting + 1)) (then_group x (nesting + 1) held (row_writes held rh false (nesting + 1 + 1))) in
      let cases : RowWrites false (nesting + 1) node =
      one_more first_case (ElseCase y) t other false (nesting + 1) one (else_group y (nesting + 1) other (row_writes other ro false (nesting + 1 + 1))) in
      one_more b (Of x) r node first nesting (row_writes b rb first nesting) (operator_group x p nesting node cases)

  -- The pieces of nodes write their groups.
  pub nodes_write : (f : Nodes) → IsRow form f → (nesting : ℕ) → WritesNoted Free (whole_pieces o form true nesting f) Bound (row_items false f) (row_items true f)
  nodes_write f h nesting = by f (row_writes f h true nesting)
    where
      by : (f : Nodes) → RowWrites true nesting f → WritesNoted Free (whole_pieces o form true nesting f) Bound (row_items false f) (row_items true f)
      by Nil w = free_writes
      by (Snoc b h r held) w = at_free form true w
