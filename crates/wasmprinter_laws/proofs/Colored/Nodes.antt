-- Folded operators with colors in their text, and without.
use Rattle.std.proofs.Common.{ℕ, ◌+◌, ◌&&◌, List, [], ◌∷◌, Bool, true, false, Option, Some, None, option_map}
use Rattle.std.specs.Option.{is_none}
use Rattle.wasmprinter_spec.specs.Grammar.{Placed}
use Rattle.wasmprinter_spec.specs.Operator.{Operator}
use Rattle.wasmprinter_spec.specs.Customs.Hints.{Hint}
use Rattle.wasmprinter_spec.specs.Options.{Options, defaults}
use Rattle.wasmprinter_spec.specs.Piece.{CloseParen}
use Rattle.wasmprinter_spec.specs.Layout.Declarations.{Folding}
use Rattle.wasmprinter_spec.specs.Layout.Operators.{Form, Setting, before_word, operators_pieces, expression_pieces}
use Rattle.wasmprinter_spec.specs.Layout.Folded.{items, head_place, head_calls, head_text, head_hint, comment_end, node_hint, node_pieces, folded_pieces, if_folded, folded_list}
use Rattle.wasmprinter_spec.specs.Layout.Expressions.{constant_by}
use Rattle.wasmprinter_spec.specs.Layout.Functions.{body_by}
use Rattle.wasmprinter_spec.specs.Folding.Code.{NestedCode, nested_code_of}
use Rattle.wasmprinter_spec.specs.Folding.Tree.{Nodes, Nil, Snoc, is_nil, tree}
use Rattle.wasmprinter_laws.proofs.Colored.Recolored.{Recolored, none, node, same_all, both, after}

-- ---- nodes

with_colors : (o : Options) (form : Form) (first : Bool) (nesting : ℕ) (f : Nodes) →
    Recolored (node_pieces o true form first nesting f) (node_pieces o false form first nesting f)
unfolding node_pieces
with_colors o form first nesting Nil = none
with_colors o form first nesting (Snoc before head results held) =
    let place : ℕ = head_place head in
    let leads : Bool = first && is_nil before in
    both
    (both (both (with_colors o form first nesting before) (same_all (node_hint o form leads place nesting (head_hint head))))
    (same_all (before_word form (leads && is_none (head_hint head)) place nesting)))
    (node (head_calls o head)
    (both (after (comment_end (is_nil held) (head_text o head) place nesting) (with_colors o form false (nesting + 1) held)) (same_all (CloseParen ∷ []))))

-- `Recolored` holds for the pieces of nodes, with or without colors, and their pieces without colors.
pub nodes_so : (o : Options) (color : Bool) (form : Form) (first : Bool) (nesting : ℕ) (f : Nodes) →
    Recolored (node_pieces o color form first nesting f) (node_pieces o false form first nesting f)
nodes_so o true form first nesting f = with_colors o form first nesting f
nodes_so o false form first nesting f = same_all (node_pieces o false form first nesting f)

-- ---- lists of operators

code_so : (color : Bool) (s : Setting) (c : Option NestedCode) →
    Recolored (if_folded (option_map (λ (code : NestedCode). node_pieces defaults color s.form true s.nesting (tree code)) c))
    (if_folded (option_map (λ (code : NestedCode). node_pieces defaults false s.form true s.nesting (tree code)) c))
code_so color s None = none
code_so color s (Some code) = nodes_so defaults color s.form true s.nesting (tree code)

-- The same way of folding, without colors.
abbrev pub bare : Folding → Folding
bare f = record f { color = false }

list_so : (f : Folding) (own : Option ℕ) (s : Setting) (hs : List (Placed Hint)) (os : List (Placed Operator)) →
    Recolored (folded_list f own s hs os) (folded_list (bare f) own s hs os)
unfolding folded_pieces
list_so f own s hs os = code_so f.color s (nested_code_of (items s (f.signatures own) hs 0 [] [] os))

-- Two ways to lay out operators. The second is the first without colors.
pub data Bared : Option Folding → Option Folding → Type 0 where
  flat : Bared None None
  folded : {f : Folding} → Bared (Some f) (Some (bare f))

pub constant_so : {x y : Option Folding} → Bared x y → (s : Setting) (os : List (Placed Operator)) → Recolored (constant_by x s os) (constant_by y s os)
unfolding constant_by
constant_so flat s os = same_all (expression_pieces s os)
constant_so (folded {f = f}) s os = list_so f (Some 0) s [] os

pub body_so : {x y : Option Folding} → Bared x y → (own : Option ℕ) (s : Setting) (hs : List (Placed Hint)) (os : List (Placed Operator)) →
    Recolored (body_by x own s hs os) (body_by y own s hs os)
unfolding body_by
body_so flat own s hs os = same_all (operators_pieces s hs true 0 [] os)
body_so (folded {f = f}) own s hs os = list_so f own s hs os
