-- The groups of folded text are the nodes of its tree.
use Rattle.std.proofs.Common.{◌≡◌, ℕ, List, [], ◌∷◌, true, false, Option, Some, option_map, refl, sym, ap, ◌∙◌, subst, codes}
use Rattle.std.specs.List.{AllByRecursion}
use Rattle.wasmprinter_spec.specs.Grammar.{◌>>=◌}
use Rattle.wasmprinter_spec.specs.Character.{class}
use Rattle.wasmprinter_spec.specs.Forest.{Forest, End, Word, Name, String, Reserved, Group, Note, onto, without_annotations}
use Rattle.wasmprinter_spec.specs.Call.{text_of}
use Rattle.wasmprinter_spec.specs.Code.{head}
use Rattle.wasmprinter_spec.specs.Options.{Options, IsBlank}
use Rattle.wasmprinter_spec.specs.Plain.{IsPlainText}
use Rattle.wasmprinter_spec.specs.Piece as piece
use Rattle.wasmprinter_spec.specs.Piece.{Piece, all_calls}
use Rattle.wasmprinter_spec.specs.Layout.Operators.{Form}
use Rattle.wasmprinter_spec.specs.Layout.Folded.{head_text, node_pieces}
use Rattle.wasmprinter_spec.specs.Folding.Code.{Item, role}
use Rattle.wasmprinter_spec.specs.Folding.Tree.{Head, Of, ThenCase, ElseCase, NodesOf, Nodes, Nil, Snoc, row_of_both, tree}
use Rattle.wasmprinter_spec.proofs.Folding.{row_of_both-nil, joined_assoc}
use Rattle.wasmprinter_laws.proofs.Tokens.Grown.{onto-End, onto_assoc}
use Rattle.wasmprinter_laws.proofs.Tokens.Noted.{noted-without_annotations}
use Rattle.wasmprinter_laws.proofs.Tokens.Pieces.{Edge, Free}
use Rattle.wasmprinter_laws.proofs.Tokens.PrintedPieces.{text_is_plain}
use Rattle.wasmprinter_laws.proofs.Tokens.Writes.{WritesNoted, nothing_writes, word_writes, writes_text, writes_forest}
use Rattle.wasmprinter_laws.specs.NodeLaws.{node_row, is_node, is_node_head, with_item, node_row_of, only_nodes, node_groups, items_in, nodes_in, with_heads, FoldedGroupsAreNodes}
use Rattle.wasmprinter_laws.proofs.Operators.Arguments.{AreArguments}
use Rattle.wasmprinter_laws.proofs.Folded.Words.{is_folded, head-folded}
use Rattle.wasmprinter_laws.proofs.Folded.Items.{word, arguments, rest, IsPrinted}
use Rattle.wasmprinter_laws.proofs.Folded.Rows.{IsRow, no_nodes, a_plain, a_block, an_if, an_if_else}
use Rattle.wasmprinter_laws.proofs.Folded.Reads.{head_items, row_items}
use Rattle.wasmprinter_laws.proofs.Folded.Spelled.{word_is_word}
use Rattle.wasmprinter_laws.proofs.Folded.ReadBack.{printed_nodes_write, nodes_row, all_printed}

-- ---- one group

-- The items of a node before its inner nodes
abbrev pub own_items : Head → Forest
own_items (Of x) = Word (word x) (arguments x)
own_items (ThenCase x) = Word (codes "then") End
own_items (ElseCase x) = Word (codes "else") End

-- A row of these nodes without other items
abbrev pub IsRowOf : Forest → NodesOf Forest → Type 0
IsRowOf f ns = node_row_of f ≡ Some (node_row End ns)

-- Items that are not nodes
abbrev pub AreFront : Forest → Type 0
AreFront End = Unit {0}
AreFront (Word w f) = AreFront f
AreFront (Name s f) = AreFront f
AreFront (String s f) = AreFront f
AreFront (Reserved f) = AreFront f
AreFront (Group g f) = (is_node g ≡ false) × AreFront f
AreFront (Note id g f) = ⊥

-- Items without nodes, before a row, keep the nodes of that row.
pub node_front : (a : Forest) → AreFront a → (f g : Forest) (ns : NodesOf Forest) → node_row_of f ≡ Some (node_row g ns) →
    node_row_of (onto a f) ≡ Some (node_row (onto a g) ns)
node_front End h f g ns e = e
node_front (Word w a) h f g ns e = ap (with_item (Word w)) (node_front a h f g ns e)
node_front (Name s a) h f g ns e = ap (with_item (Name s)) (node_front a h f g ns e)
node_front (String s a) h f g ns e = ap (with_item (String s)) (node_front a h f g ns e)
node_front (Reserved a) h f g ns e = ap (with_item Reserved) (node_front a h f g ns e)
node_front (Group k a) h f g ns e = rw (h.0, node_front a h.1 f g ns e) refl
node_front (Note id k a) h f g ns e = absurd h

-- Arguments contain no nodes.
arguments_are : (a : Forest) → AreArguments a → AreFront a
arguments_are End h = tt
arguments_are (Word w a) h = arguments_are a h.1
arguments_are (Name s a) h = arguments_are a h
arguments_are (Group (Word w g) a) h = (ap is_node_head h.0, arguments_are a h.1)
arguments_are _ h = absurd h

arguments_front : (a : Forest) → AreArguments a → (f : Forest) (ns : NodesOf Forest) → IsRowOf f ns → node_row_of (onto a f) ≡ Some (node_row a ns)
arguments_front a h f ns e = node_front a (arguments_are a h) f End ns e ∙ ap (λ g. Some (node_row g ns)) (onto-End a)

-- A group is one node with these inner nodes.
record IsGroupOf (h : Head) (held : Forest) (ks : NodesOf Forest) : Type 0 where
  node : is_node (head_items h held) ≡ true
  holds : node_row_of (head_items h held) ≡ Some (node_row (own_items h) ks)

operator_group : {form : Form} (x : Item) → IsPrinted form x → is_folded (role x) ≡ true → (held : Forest) (ks : NodesOf Forest) → IsRowOf held ks →
    IsGroupOf (Of x) held ks
operator_group x p folded held ks e = record {
  node = ap is_node_head (head-folded x.operator.value p.listed folded);
  holds = ap (with_item (Word (word x))) (arguments_front (arguments x) p.are held ks e);
}

then_group : (x : Item) (held : Forest) (ks : NodesOf Forest) → IsRowOf held ks → IsGroupOf (ThenCase x) held ks
unfolding head
then_group x held ks e = record { node = refl; holds = ap (with_item (Word (codes "then"))) e }

else_group : (x : Item) (held : Forest) (ks : NodesOf Forest) → IsRowOf held ks → IsGroupOf (ElseCase x) held ks
unfolding head
else_group x held ks e = record { node = refl; holds = ap (with_item (Word (codes "else"))) e }

group_leads : (h : Head) (held : Forest) (ks : NodesOf Forest) → IsGroupOf h held ks → (g : Forest) (ns : NodesOf Forest) → IsRowOf g ns →
    IsRowOf (Group (head_items h held) g) (row_of_both (Snoc Nil (own_items h) 0 ks) ns)
group_leads h held ks k g ns e = rw (k.node, k.holds, e) refl

-- ---- rows of nodes

-- The groups of these nodes, before a row of nodes, are a row of both.
abbrev pub AreNodes : Nodes → Type 0
AreNodes f = (g : Forest) (ns : NodesOf Forest) → IsRowOf g ns → IsRowOf (onto (row_items false f) g) (row_of_both (with_heads own_items f) ns)

pub alone : (f : Nodes) → AreNodes f → IsRowOf (row_items false f) (with_heads own_items f)
alone f h = subst (λ g. IsRowOf g (with_heads own_items f)) (onto-End (row_items false f)) (h End Nil refl)

one_more : (b : Nodes) (h : Head) (r : ℕ) (held : Nodes) → AreNodes b → IsGroupOf h (row_items false held) (with_heads own_items held) → AreNodes (Snoc b h r held)
one_more b h r held before own g ns e =
    let inner : Forest = head_items h (row_items false held) in
    let one : NodesOf Forest = Snoc Nil (own_items h) 0 (with_heads own_items held) in
    ap node_row_of (onto_assoc (row_items false b) (Group inner End) g)
    ∙ before (Group inner g) (row_of_both one ns) (group_leads h (row_items false held) (with_heads own_items held) own g ns e)
    ∙ ap (λ t. Some (node_row End t)) (sym (joined_assoc (with_heads own_items b) one ns))

pub row_nodes : (form : Form) (f : Nodes) → IsRow form f → AreNodes f
row_nodes form f no_nodes = λ g ns e. e ∙ ap (λ t. Some (node_row End t)) (sym (row_of_both-nil ns))
row_nodes form f (a_plain b x r held p h rb rh) =
    one_more b (Of x) r held (row_nodes form b rb)
    (operator_group x h (ap is_folded p) (row_items false held) (with_heads own_items held) (alone held (row_nodes form held rh)))
row_nodes form f (a_block b x r held p h rb rh nested) =
    one_more b (Of x) r held (row_nodes form b rb)
    (operator_group x h (ap is_folded p) (row_items false held) (with_heads own_items held) (alone held (row_nodes form held rh)))
row_nodes form f (an_if b x r given q held p h rb rg rh nested) =
    let node : Nodes = Snoc given (ThenCase x) q held in
    let cases : AreNodes node =
    one_more given (ThenCase x) q held (row_nodes form given rg)
    (then_group x (row_items false held) (with_heads own_items held) (alone held (row_nodes form held rh))) in
    one_more b (Of x) r node (row_nodes form b rb)
    (operator_group x h (ap is_folded p) (row_items false node) (with_heads own_items node) (alone node cases))
row_nodes form f (an_if_else b x r given q held y t other p h rb rg rh nested py hy ro nested_other) =
    let first : Nodes = Snoc given (ThenCase x) q held in
    let node : Nodes = Snoc first (ElseCase y) t other in
    let one : AreNodes first =
    one_more given (ThenCase x) q held (row_nodes form given rg)
    (then_group x (row_items false held) (with_heads own_items held) (alone held (row_nodes form held rh))) in
    let cases : AreNodes node =
    one_more first (ElseCase y) t other one
    (else_group y (row_items false other) (with_heads own_items other) (alone other (row_nodes form other ro))) in
    one_more b (Of x) r node (row_nodes form b rb)
    (operator_group x h (ap is_folded p) (row_items false node) (with_heads own_items node) (alone node cases))

-- The groups of a row are its nodes.
pub row_groups : (form : Form) (f : Nodes) → IsRow form f → node_groups (row_items false f) ≡ Some (with_heads own_items f)
row_groups form f h = ap (λ r. r >>= only_nodes) (alone f (row_nodes form f h))

-- ---- the items of nodes

-- The text of pieces reads as the items that the pieces write.
pub items_written : {b : Edge} {f k : Forest} (o : Options) → IsBlank o.indent → (ps : List Piece) → WritesNoted Free ps b f k →
    items_in (text_of (all_calls o ps)) ≡ Some f
items_written o spaces ps w =
    ap (option_map without_annotations) (writes_forest o spaces ps w) ∙ ap (λ g. Some g) (noted-without_annotations w.noted ∙ w.without)

module _ (o : Options) (spaces : IsBlank o.indent) (form : Form) where
  operator_reads : (x : Item) → IsPrinted form x → items_in (head_text o (Of x)) ≡ Some (own_items (Of x))
  operator_reads x p =
      ap (λ ps. items_in (text_of (all_calls o ps))) p.pieces
      ∙ items_written o spaces (piece.Word (word x) ∷ rest x) (word_writes (word_is_word x p) p.writes)

  then_reads : (x : Item) → items_in (head_text o (ThenCase x)) ≡ Some (own_items (ThenCase x))
  unfolding class
  then_reads x = items_written o spaces (piece.Word (codes "then") ∷ []) (word_writes refl nothing_writes)

  else_reads : (x : Item) → items_in (head_text o (ElseCase x)) ≡ Some (own_items (ElseCase x))
  unfolding class
  else_reads x = items_written o spaces (piece.Word (codes "else") ∷ []) (word_writes refl nothing_writes)

  -- The nodes with the items that the text of each head reads as, and those with the items in its group
  abbrev as_read : Nodes → NodesOf (Option Forest)
  as_read f = with_heads (λ h. items_in (head_text o h)) f

  abbrev as_written : Nodes → NodesOf (Option Forest)
  as_written f = with_heads (λ g. Some g) (with_heads own_items f)

  one_head : (b : Nodes) (h : Head) (r : ℕ) (held : Nodes) → items_in (head_text o h) ≡ Some (own_items h) → as_written b ≡ as_read b → as_written held ≡ as_read held →
      as_written (Snoc b h r held) ≡ as_read (Snoc b h r held)
  one_head b h r held e before inside = rw (e, before, inside) refl

  pub heads_read : (f : Nodes) → IsRow form f → as_written f ≡ as_read f
  heads_read f no_nodes = refl
  heads_read f (a_plain b x r held p h rb rh) = one_head b (Of x) r held (operator_reads x h) (heads_read b rb) (heads_read held rh)
  heads_read f (a_block b x r held p h rb rh nested) = one_head b (Of x) r held (operator_reads x h) (heads_read b rb) (heads_read held rh)
  heads_read f (an_if b x r given q held p h rb rg rh nested) =
      one_head b (Of x) r (Snoc given (ThenCase x) q held) (operator_reads x h) (heads_read b rb)
      (one_head given (ThenCase x) q held (then_reads x) (heads_read given rg) (heads_read held rh))
  heads_read f (an_if_else b x r given q held y t other p h rb rg rh nested py hy ro nested_other) =
      one_head b (Of x) r (Snoc (Snoc given (ThenCase x) q held) (ElseCase y) t other) (operator_reads x h) (heads_read b rb)
      (one_head (Snoc given (ThenCase x) q held) (ElseCase y) t other (else_reads y)
      (one_head given (ThenCase x) q held (then_reads x) (heads_read given rg) (heads_read held rh)) (heads_read other ro))

  -- ---- the text of nodes

  -- The text of nodes is plain.
  pub nodes_plain : (f : Nodes) → IsRow form f → (nesting : ℕ) → IsPlainText (text_of (all_calls o (node_pieces o false form true nesting f)))
  nodes_plain f h nesting =
      let ps : List Piece = node_pieces o false form true nesting f in
      let w = printed_nodes_write o spaces form f h nesting in
      subst IsPlainText (sym (writes_text o ps w)) (text_is_plain o spaces w.printed w.are)

  -- The groups of the text are the nodes.
  pub nodes_read : (f : Nodes) → IsRow form f → (nesting : ℕ) →
      option_map (with_heads (λ g. Some g)) (nodes_in (text_of (all_calls o (node_pieces o false form true nesting f)))) ≡ Some (as_read f)
  nodes_read f h nesting =
      let ps : List Piece = node_pieces o false form true nesting f in
      ap (λ t. option_map (with_heads (λ (g : Forest). Some g)) (t >>= node_groups)) (items_written o spaces ps (printed_nodes_write o spaces form f h nesting))
      ∙ ap (option_map (with_heads (λ (g : Forest). Some g))) (row_groups form f h)
      ∙ ap (λ t. Some t) (heads_read f h)

-- ---- the law

pub folded_groups_are_nodes : FoldedGroupsAreNodes
folded_groups_are_nodes s named ranged signatures hs os listed xs e code is o spaces =
    let printed : AllByRecursion (IsPrinted s.form) xs = all_printed s named ranged signatures hs os listed xs e in
    nodes_read o spaces s.form (tree code) (nodes_row s.form xs printed code is) s.nesting
