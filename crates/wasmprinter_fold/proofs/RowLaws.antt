-- The layout of nodes, in terms of the text of each node and of the last node of a row.
use Rattle.std.proofs.Common.{◌≡◌, ℕ, ◌+◌, ◌&&◌, Bool, true, false, List, [], ◌∷◌, ◌++◌, refl, subst, append_assoc}
use Rattle.std.specs.Prelude.{Option, Some, None, option_map, cond}
use Rattle.std.specs.Option.{is_none}
use Rattle.wasmprinter_spec.specs.Grammar.{Placed}
use Rattle.wasmprinter_spec.specs.Customs.Hints.{Hint}
use Rattle.wasmprinter_spec.specs.Options.{defaults}
use Rattle.wasmprinter_spec.specs.Piece.{Piece, Break, OpenPlain, CloseParen}
use Rattle.wasmprinter_spec.specs.Layout.Operators.{Form, before_word}
use Rattle.wasmprinter_spec.specs.Layout.Folded.{head_place, head_hint, head_calls, head_text, text_in_color, has_line_comment, comment_end, node_hint, node_pieces}
use Rattle.wasmprinter_spec.specs.Folding.Tree.{NodesOf, Nodes, Nil, Snoc, is_nil}
use Rattle.wasmprinter_fold.specs.declared.nodes.NodeText.{NodeText}
use Rattle.wasmprinter_fold.specs.Mapping.{map_nodes}
use Rattle.wasmprinter_fold.specs.Shown.{ShownNode, shown_head, shown_of_head, shown_hint, comment_break, node_front, row_pieces}

pub nil_mapped : {H K : Type 0} (v : H → K) (f : NodesOf H) → is_nil (map_nodes v f) ≡ is_nil f
nil_mapped v Nil = refl
nil_mapped v (Snoc before head results held) = refl

hint_same : (form : Form) (first : Bool) (place nesting : ℕ) (h : Option (Placed Hint)) →
    node_hint defaults form first place nesting h ≡ shown_hint form first place nesting (option_map (λ x. x.value.taken) h)
hint_same form first place nesting None = refl
hint_same form first place nesting (Some h) = refl

none_same : (h : Option (Placed Hint)) → is_none h ≡ is_none (option_map (λ x. x.value.taken) h)
none_same None = refl
none_same (Some h) = refl

break_by : (comment : Bool) (place nesting : ℕ) → cond comment (Break (Some place) nesting ∷ []) [] ≡ comment_break true comment place nesting
break_by true place nesting = refl
break_by false place nesting = refl

break_same : (leaf : Bool) (s : List ℕ) (place nesting : ℕ) → comment_end leaf s place nesting ≡ comment_break leaf (has_line_comment s) place nesting
break_same true s place nesting = break_by (has_line_comment s) place nesting
break_same false s place nesting = refl

same_parts : (a a2 h h2 b b2 c c2 k k2 : List Piece) (x : Piece) → a ≡ a2 → h ≡ h2 → b ≡ b2 → c ≡ c2 → k ≡ k2 →
    ((a ++ h) ++ b) ++ (x ∷ ((c ++ k) ++ (CloseParen ∷ []))) ≡ a2 ++ ((h2 ++ (b2 ++ (x ∷ c2))) ++ (k2 ++ (CloseParen ∷ [])))
same_parts a a2 h h2 b b2 c c2 k k2 x p q r s t = rw (p, q, r, s, t) (simp append_assoc)

-- The layout of nodes is that of their texts.
pub rows_shown : (color : Bool) (form : Form) (first : Bool) (nesting : ℕ) (f : Nodes) →
    node_pieces defaults color form first nesting f ≡ row_pieces form first nesting (map_nodes (shown_head color) f)
unfolding node_pieces row_pieces
rows_shown color form first nesting Nil = refl
rows_shown color form first nesting (Snoc before head results held) =
    let nil = nil_mapped (shown_head color) before in
    same_parts
    (node_pieces defaults color form first nesting before)
    (row_pieces form first nesting (map_nodes (shown_head color) before))
    (node_hint defaults form (first && is_nil before) (head_place head) nesting (head_hint head))
    (shown_hint form (first && is_nil (map_nodes (shown_head color) before)) (head_place head) nesting (option_map (λ x. x.value.taken) (head_hint head)))
    (before_word form ((first && is_nil before) && is_none (head_hint head)) (head_place head) nesting)
    (before_word form ((first && is_nil (map_nodes (shown_head color) before)) && is_none (option_map (λ x. x.value.taken) (head_hint head))) (head_place head) nesting)
    (comment_end (is_nil held) (head_text defaults head) (head_place head) nesting)
    (comment_break (is_nil (map_nodes (shown_head color) held)) (has_line_comment (head_text defaults head)) (head_place head) nesting)
    (node_pieces defaults color form false (nesting + 1) held)
    (row_pieces form false (nesting + 1) (map_nodes (shown_head color) held))
    (OpenPlain (text_in_color color (head_calls defaults head)))
    (rows_shown color form first nesting before)
    (rw nil (hint_same form (first && is_nil before) (head_place head) nesting (head_hint head)))
    (rw (nil, ← none_same (head_hint head)) refl)
    (rw (nil_mapped (shown_head color) held) (break_same (is_nil held) (head_text defaults head) (head_place head) nesting))
    (rows_shown color form false (nesting + 1) held)

-- The pieces of a row are those of the nodes before the last and those of the last node.
pub row_last : (form : Form) (first : Bool) (nesting : ℕ) (before : NodesOf ShownNode) (s : ShownNode) (results : ℕ) (held : NodesOf ShownNode) →
    row_pieces form first nesting (Snoc before s results held)
    ≡ row_pieces form first nesting before ++ (node_front form (first && is_nil before) (is_nil held) nesting s ++ (row_pieces form false (nesting + 1) held ++ (CloseParen ∷ [])))
unfolding row_pieces
row_last form first nesting before s results held = refl

pub row_none : (form : Form) (first : Bool) (nesting : ℕ) → row_pieces form first nesting Nil ≡ []
unfolding row_pieces
row_none form first nesting = refl

-- ---- The place of a node

-- The front of a node may be written with the place of its head.
pub front_at : {S : Type 0} (wrote : S → S → List Piece → Type 0) {a t : S} (form : Form) (leads leaf : Bool) (nesting : ℕ) (buffer : List ℕ) (l : NodeText) (place : ℕ) →
    place ≡ l.place →
    wrote a t (node_front form leads leaf nesting (record { place = place; hint = l.hint; text = (shown_of_head buffer l).text; comment = l.comment })) →
    wrote a t (node_front form leads leaf nesting (shown_of_head buffer l))
front_at wrote {a} {t} form leads leaf nesting buffer l place e v =
    subst (λ (x : ℕ). wrote a t (node_front form leads leaf nesting (record { place = x; hint = l.hint; text = (shown_of_head buffer l).text; comment = l.comment }))) e v
