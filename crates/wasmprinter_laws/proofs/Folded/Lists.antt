-- The operators of a body or of an expression, flat or folded: their items, that pieces write these, and that they
-- are the code of the operators
use Rattle.std.proofs.Common.{◌≡◌, inl, ℕ, Bool, true, false, List, [], ◌∷◌, Option, Some, None, option_map, map, refl, sym, ap, ap₂, subst, ◌∙◌}
use Rattle.std.specs.List.{AllByRecursion}
use Rattle.wasmprinter_spec.specs.Grammar.{Placed}
use Rattle.wasmprinter_spec.specs.Forest.{Forest, End, Group, onto}
use Rattle.wasmprinter_spec.specs.Operator.{Operator}
use Rattle.wasmprinter_spec.specs.Row.{Role}
use Rattle.wasmprinter_spec.specs.Nesting.{Nests, Sequence}
use Rattle.wasmprinter_spec.specs.Instructions.{roles}
use Rattle.wasmprinter_spec.specs.Module.{without_places}
use Rattle.wasmprinter_spec.specs.Labels as labels
use Rattle.wasmprinter_spec.specs.Names.{AreNamed}
use Rattle.wasmprinter_spec.specs.Customs.Hints.{Hint}
use Rattle.wasmprinter_spec.specs.Options.{IsBlank, defaults}
use Rattle.wasmprinter_spec.specs.Code.{chunks_of_forest}
use Rattle.wasmprinter_spec.specs.Layout.Declarations.{Folding}
use Rattle.wasmprinter_spec.specs.Layout.Operators.{Form, OverLines, InLine, Setting}
use Rattle.wasmprinter_spec.specs.Layout.Folded.{items, node_pieces, folded_pieces, if_folded, folded_list}
use Rattle.wasmprinter_spec.specs.Folding.Arities.{Signatures}
use Rattle.wasmprinter_spec.specs.Folding.Code as folding
use Rattle.wasmprinter_spec.specs.Folding.Code.{Item, NestedCode, role, AreWithoutTry}
use Rattle.wasmprinter_spec.specs.Folding.Tree.{Of, ThenCase, ElseCase, Nodes, Nil, Snoc, tree}
use Rattle.wasmprinter_spec.proofs.FoldingItems.{roles-items}
use Rattle.wasmprinter_spec.proofs.FoldingCode.{nested_code_of-nested, nested_code_of-tree}
use Rattle.wasmprinter_laws.proofs.Tokens.Pieces.{Edge, Free, Bound}
use Rattle.wasmprinter_laws.proofs.Tokens.Writes.{Writes, WritesNoted, nothing_writes, free_writes, after_anything, respelled_write}
use Rattle.wasmprinter_laws.specs.Listed.{IsListed, AreSignaturesInRange}
use Rattle.wasmprinter_laws.proofs.Operators.Forms.{hint_items}
use Rattle.wasmprinter_laws.proofs.Operators.Lists.{expression_items, hinted_items, chunks_of, chunks_of_forest-operators}
use Rattle.wasmprinter_laws.proofs.Folded.Rows.{IsRow}
use Rattle.wasmprinter_laws.proofs.Folded.Reads.{head_items, row_items}
use Rattle.wasmprinter_laws.proofs.Folded.Heads.{AllHeads, heads-tree}
use Rattle.wasmprinter_laws.proofs.Folded.Texts.{whole_pieces, nodes_spelled}
use Rattle.wasmprinter_laws.proofs.Folded.Spelled.{row_spelled}
use Rattle.wasmprinter_laws.proofs.Folded.Writes.{RowWrites, row_writes}
use Rattle.wasmprinter_laws.proofs.Folded.ReadBack.{tree_row, tree_unfolds}

-- ---- the items

-- The items of folded code, or none if the operators have no tree
abbrev pub code_items : Bool → Option NestedCode → Forest
code_items hints None = End
code_items hints (Some code) = row_items hints (tree code)

-- The items of folded operators, with or without hints before them
abbrev pub folded_items : Bool → Setting → Signatures → List (Placed Hint) → List (Placed Operator) → Forest
folded_items hints s signatures hs os = code_items hints (folding.nested_code_of (items s signatures hs 0 [] [] os))

abbrev pub flat_items : Bool → Setting → List (Placed Hint) → List (Placed Operator) → Forest
flat_items true s hs os = hinted_items s hs 0 [] os
flat_items false s hs os = expression_items s (without_places os)

-- The items of flat operators, or of operators folded inside a function with this number of results
abbrev pub list_items : Bool → Option Folding → Option ℕ → Setting → List (Placed Hint) → List (Placed Operator) → Forest
list_items hints None own s hs os = flat_items hints s hs os
list_items hints (Some f) own s hs os = folded_items hints s (f.signatures own) hs os

-- ---- the premises

-- The text of folded operators has no colors.
abbrev pub IsUncolored : Option Folding → Type 0
IsUncolored None = Unit {0}
IsUncolored (Some f) = f.color ≡ false

abbrev pub is_folding : Option Folding → Bool
is_folding None = false
is_folding (Some f) = true

-- If operators are folded, none is `try`, `catch`, `catch_all` or `delegate`.
abbrev pub AreFoldable : Option Folding → List (Placed Operator) → Type 0
AreFoldable None os = Unit {0}
AreFoldable (Some f) os = AreWithoutTry (roles os)

-- ---- pieces write the items

-- What the first operator may follow: any token if operators are on several lines, a space if they are in one line
abbrev pub in_front : Form → Edge
in_front OverLines = Bound
in_front InLine = Free

no_nodes_write : (form : Form) → WritesNoted (in_front form) [] Bound End End
no_nodes_write OverLines = nothing_writes
no_nodes_write InLine = free_writes

pub defaults_are_blank : IsBlank defaults.indent
defaults_are_blank = (inl refl, (inl refl, tt))

row_in_front : (form : Form) (nesting : ℕ) (f : Nodes) → IsRow form f → WritesNoted (in_front form) (node_pieces defaults false form true nesting f) Bound (row_items false f) (row_items true f)
row_in_front form nesting f h =
    respelled_write (nodes_spelled defaults defaults_are_blank form true nesting f (row_spelled defaults defaults_are_blank form f h)) (by form f (row_writes defaults form f h true nesting))
  where
    by : (form : Form) (f : Nodes) → RowWrites defaults form true nesting f → WritesNoted (in_front form) (whole_pieces defaults form true nesting f) Bound (row_items false f) (row_items true f)
    by form Nil w = no_nodes_write form
    by OverLines (Snoc b g r held) w = after_anything Bound w
    by InLine (Snoc b g r held) w = w

pub folded_list_writes : (f : Folding) → f.color ≡ false → (own : Option ℕ) (s : Setting) → AreNamed s.names → AreSignaturesInRange s.signature →
    (hs : List (Placed Hint)) (os : List (Placed Operator)) → AllByRecursion IsListed (without_places os) →
    WritesNoted (in_front s.form) (folded_list f own s hs os) Bound (folded_items false s (f.signatures own) hs os) (folded_items true s (f.signatures own) hs os)
unfolding folded_pieces
folded_list_writes f bare own s named ranged hs os l = by f.color bare (folding.nested_code_of (items s (f.signatures own) hs 0 [] [] os)) refl
  where
    by : (color : Bool) → color ≡ false → (c : Option NestedCode) → folding.nested_code_of (items s (f.signatures own) hs 0 [] [] os) ≡ c →
        WritesNoted (in_front s.form) (if_folded (option_map (λ code. node_pieces defaults color s.form true s.nesting (tree code)) c)) Bound (code_items false c) (code_items true c)
    by true b c e = absurd cc
    by false b None e = no_nodes_write s.form
    by false b (Some code) e = row_in_front s.form s.nesting (tree code) (tree_row s named ranged (f.signatures own) hs os l code e)

-- ---- without hints

abbrev IsUnhinted : Item → Type 0
IsUnhinted x = x.hint ≡ None

items_unhinted : (s : Setting) (signatures : Signatures) (os : List (Placed Operator)) (n : ℕ) (xs : List labels.Label) (ls : List (Option ℕ)) → AllByRecursion IsUnhinted (items s signatures [] n xs ls os)
unfolding items
items_unhinted s signatures [] n xs ls = tt
items_unhinted s signatures (o ∷ os) n xs ls = (refl, items_unhinted s signatures os _ _ _)

row_unhinted : (f : Nodes) → AllHeads IsUnhinted f → row_items true f ≡ row_items false f
row_unhinted Nil h = refl
row_unhinted (Snoc b (Of x) r held) (own, before, inside) =
    ap₂ onto (row_unhinted b before)
    (ap₂ (λ i g. hint_items i (Group (head_items (Of x) g) End)) own (row_unhinted held inside))
row_unhinted (Snoc b (ThenCase x) r held) (_, before, inside) =
    ap₂ (λ f g. onto f (Group (head_items (ThenCase x) g) End)) (row_unhinted b before) (row_unhinted held inside)
row_unhinted (Snoc b (ElseCase x) r held) (_, before, inside) =
    ap₂ (λ f g. onto f (Group (head_items (ElseCase x) g) End)) (row_unhinted b before) (row_unhinted held inside)

pub folded_unhinted : (s : Setting) (signatures : Signatures) (os : List (Placed Operator)) → folded_items true s signatures [] os ≡ folded_items false s signatures [] os
folded_unhinted s signatures os = by (folding.nested_code_of xs) refl
  where
    xs : List Item
    xs = items s signatures [] 0 [] [] os

    by : (c : Option NestedCode) → folding.nested_code_of xs ≡ c → code_items true c ≡ code_items false c
    by None e = refl
    by (Some code) e =
        row_unhinted (tree code)
        (heads-tree IsUnhinted code (subst (AllByRecursion IsUnhinted) (sym (nested_code_of-tree xs code e).0) (items_unhinted s signatures os 0 [] [])))

pub unhinted_list_writes : (f : Folding) → f.color ≡ false → (own : Option ℕ) (s : Setting) → AreNamed s.names → AreSignaturesInRange s.signature →
    (os : List (Placed Operator)) → AllByRecursion IsListed (without_places os) →
    Writes (in_front s.form) (folded_list f own s [] os) Bound (folded_items false s (f.signatures own) [] os)
unhinted_list_writes f bare own s named ranged os l =
    subst (WritesNoted (in_front s.form) (folded_list f own s [] os) Bound (folded_items false s (f.signatures own) [] os)) (folded_unhinted s (f.signatures own) os)
    (folded_list_writes f bare own s named ranged [] os l)

-- ---- the items are the code of the operators

-- Well-nested operators without `try`, `catch`, `catch_all` and `delegate` have a tree.
pub has_tree : (s : Setting) (signatures : Signatures) (hs : List (Placed Hint)) (os : List (Placed Operator)) → Nests Sequence (roles os) → AreWithoutTry (roles os) →
    (code : NestedCode) × (folding.nested_code_of (items s signatures hs 0 [] [] os) ≡ Some code)
has_tree s signatures hs os n t =
    let xs : List Item = items s signatures hs 0 [] [] os in
    let same : map role xs ≡ roles os = roles-items s signatures os hs 0 [] [] in
    nested_code_of-nested xs (subst (λ (rs : List Role). Nests Sequence rs) (sym same) n) (subst AreWithoutTry (sym same) t)

folded-unfolds : (s : Setting) (signatures : Signatures) → AreNamed s.names → AreSignaturesInRange s.signature → (hs : List (Placed Hint)) (os : List (Placed Operator)) →
    AllByRecursion IsListed (without_places os) → Nests Sequence (roles os) → AreWithoutTry (roles os) →
    chunks_of_forest (folded_items false s signatures hs os) ≡ Some (chunks_of s 0 [] (without_places os))
folded-unfolds s signatures named ranged hs os l n t =
    let code = has_tree s signatures hs os n t in
    ap (λ c. chunks_of_forest (code_items false c)) code.1 ∙ tree_unfolds s named ranged signatures hs os l code.0 code.1

pub chunks_of_forest-list : (folding : Option Folding) (own : Option ℕ) (s : Setting) → AreNamed s.names → AreSignaturesInRange s.signature → (hs : List (Placed Hint)) (os : List (Placed Operator)) →
    AllByRecursion IsListed (without_places os) → Nests Sequence (roles os) → AreFoldable folding os →
    chunks_of_forest (list_items false folding own s hs os) ≡ Some (chunks_of s 0 [] (without_places os))
chunks_of_forest-list None own s named ranged hs os l n t = chunks_of_forest-operators s 0 [] (without_places os) l
chunks_of_forest-list (Some f) own s named ranged hs os l n t = folded-unfolds s (f.signatures own) named ranged hs os l n t
