-- Nodes that a text may contain: the operator and the inner nodes of each. The tree of a list of operators is a
-- row of these nodes.
use Rattle.std.proofs.Common.{◌≡◌, ℕ, Bool, true, false, List, ◌∷◌, ◌++◌, map, sym, ap, ◌∙◌, subst}
use Rattle.std.specs.List.{AllByRecursion}
use Rattle.wasmprinter_spec.specs.Row as row
use Rattle.wasmprinter_spec.specs.Row.{Opens, OpensIf, Else, Ends}
use Rattle.wasmprinter_spec.specs.Stepped.{stops}
use Rattle.wasmprinter_spec.specs.Nesting.{advance, at_start}
use Rattle.wasmprinter_spec.specs.NestingSteps.{stops_at_end}
use Rattle.wasmprinter_spec.specs.Layout.Operators.{Form}
use Rattle.wasmprinter_spec.specs.Folding.Code.{Item, NestedCode, Done, Plain, Block, If, IfElse, flat, role, IsFit}
use Rattle.wasmprinter_spec.specs.Folding.Tree.{Of, ThenCase, ElseCase, Nodes, Nil, Snoc, row_of_both, front, last, Operands, Fit, Overshot, TooFew, operand_search, with_operands, with_operator, tree_after, tree}
use Rattle.wasmprinter_spec.specs.Folding.Unfolding.{unfolding_of}
use Rattle.wasmprinter_spec.specs.Code.{Chunk, role_by}
use Rattle.wasmprinter_spec.proofs.Folding.{row_of_both-front-last, AreLast, AreLast-operand_search, unfolding_of-tree}
use Rattle.wasmprinter_spec.proofs.FoldingCode.{nested_code_of-flat, nested_code_of-nests}
use Rattle.wasmprinter_spec.proofs.Each.{all_parts}
use Rattle.wasmprinter_laws.proofs.Folded.Items.{IsPrinted, told_chunks, told_items, unasked, told_roles}

abbrev pub are_nested : List Chunk → Bool
are_nested cs = stops advance at_start (map (λ c. role_by c.rows) cs) Ends

-- The operators in a block or in a case of an `if` are well nested by themselves.
abbrev pub IsNested : Nodes → Type 0
IsNested f = are_nested (told_chunks false (unfolding_of f)) ≡ true

-- A row of nodes, by its last one: the node of a plain operator with its operands, of a block with its content, or
-- of an `if` with its operands and its cases.
pub data IsRow (form : Form) : Nodes → Type 0 where
  no_nodes : IsRow form Nil
  a_plain : (b : Nodes) (x : Item) (r : ℕ) (held : Nodes) → role x ≡ row.Plain → IsPrinted form x → IsRow form b → IsRow form held → IsRow form (Snoc b (Of x) r held)
  a_block : (b : Nodes) (x : Item) (r : ℕ) (held : Nodes) → role x ≡ Opens → IsPrinted form x → IsRow form b → IsRow form held → IsNested held →
      IsRow form (Snoc b (Of x) r held)
  an_if : (b : Nodes) (x : Item) (r : ℕ) (given : Nodes) (q : ℕ) (held : Nodes) → role x ≡ OpensIf → IsPrinted form x → IsRow form b →
      IsRow form given → IsRow form held → IsNested held → IsRow form (Snoc b (Of x) r (Snoc given (ThenCase x) q held))
  an_if_else : (b : Nodes) (x : Item) (r : ℕ) (given : Nodes) (q : ℕ) (held : Nodes) (y : Item) (p : ℕ) (other : Nodes) → role x ≡ OpensIf → IsPrinted form x → IsRow form b →
      IsRow form given → IsRow form held → IsNested held → role y ≡ Else → IsPrinted form y → IsRow form other → IsNested other →
      IsRow form (Snoc b (Of x) r (Snoc (Snoc given (ThenCase x) q held) (ElseCase y) p other))

-- ---- rows that consist of two parts

module _ (form : Form) where
  parts : (a b : Nodes) → IsRow form (row_of_both a b) → IsRow form a × IsRow form b
  parts a Nil h = (h, no_nodes)
  parts a (Snoc b h r held) (a_plain _ x _ _ e p rb rh) = let ps = parts a b rb in (ps.0, a_plain b x r held e p ps.1 rh)
  parts a (Snoc b h r held) (a_block _ x _ _ e p rb rh n) = let ps = parts a b rb in (ps.0, a_block b x r held e p ps.1 rh n)
  parts a (Snoc b h r held) (an_if _ x _ given q body e p rb rg rh n) = let ps = parts a b rb in (ps.0, an_if b x r given q body e p ps.1 rg rh n)
  parts a (Snoc b h r held) (an_if_else _ x _ given q body y t other e p rb rg rh n f py ro m) =
      let ps = parts a b rb in (ps.0, an_if_else b x r given q body y t other e p ps.1 rg rh n f py ro m)

  ends : (f : Nodes) → IsRow form f → IsRow form (front f) × IsRow form (last f)
  ends f h = parts (front f) (last f) (subst (IsRow form) (sym (row_of_both-front-last f)) h)

  -- ---- the tree of code

  row-with_operands : (f : Nodes) (x : Item) (o : Operands) → role x ≡ row.Plain → IsPrinted form x → AreLast f o → IsRow form f → IsRow form (with_operands f (Of x) x.results o)
  row-with_operands f x (Fit before run) e p l h =
      let ps = parts before run (subst (IsRow form) l h) in
      a_plain before x _ run e p ps.0 ps.1
  row-with_operands f x Overshot e p l h = a_plain f x _ Nil e p h no_nodes
  row-with_operands f x TooFew e p l h = a_plain f x _ Nil e p h no_nodes

  -- The operators of code are well nested.
  nested-code : (code : NestedCode) → IsFit code → AllByRecursion (IsPrinted form) (flat code) → IsNested (tree code)
  nested-code code h p =
      ap (λ ts. are_nested (told_chunks false ts)) (unfolding_of-tree code h)
      ∙ ap are_nested (told_items false form (flat code) p (unasked (flat code)))
      ∙ ap (λ rs. stops advance at_start rs Ends) (told_roles form (flat code) p)
      ∙ stops_at_end (map role (flat code)) (nested_code_of-nests (flat code) code (nested_code_of-flat code h)).0

  row-tree_after : (f : Nodes) (code : NestedCode) → IsFit code → AllByRecursion (IsPrinted form) (flat code) → IsRow form f → IsRow form (tree_after f code)
  row-tree_after f Done h p r = r
  row-tree_after f (Plain x rest) h p r =
      row-tree_after (with_operator f x) rest h.1 p.1 (row-with_operands f x (operand_search x.operands f) h.0 p.0 (AreLast-operand_search x.operands f) r)
  row-tree_after f (Block x body end rest) (opens, fit_body, closes, fit_rest) p r =
      let (in_body, (of_end, after)) = all_parts (IsPrinted form) (flat body) (end ∷ flat rest) p.1 in
      row-tree_after (Snoc f (Of x) x.results (tree_after Nil body)) rest fit_rest after
      (a_block f x x.results (tree_after Nil body) opens p.0 r (row-tree_after Nil body fit_body in_body no_nodes)
      (nested-code body fit_body in_body))
  row-tree_after f (If x body end rest) (opens, fit_body, closes, fit_rest) p r =
      let (in_body, (of_end, after)) = all_parts (IsPrinted form) (flat body) (end ∷ flat rest) p.1 in
      let es = ends f r in
      row-tree_after (Snoc (front f) (Of x) x.results (Snoc (last f) (ThenCase x) 0 (tree_after Nil body))) rest fit_rest after
      (an_if (front f) x x.results (last f) 0 (tree_after Nil body) opens p.0 es.0 es.1 (row-tree_after Nil body fit_body in_body no_nodes)
      (nested-code body fit_body in_body))
  row-tree_after f (IfElse x body turn other end rest) (opens, fit_body, turns, fit_other, closes, fit_rest) p r =
      let (in_body, (of_turn, after_turn)) = all_parts (IsPrinted form) (flat body) (turn ∷ (flat other ++ end ∷ flat rest)) p.1 in
      let (in_other, (of_end, after)) = all_parts (IsPrinted form) (flat other) (end ∷ flat rest) after_turn in
      let es = ends f r in
      let body_case : Nodes = Snoc (last f) (ThenCase x) 0 (tree_after Nil body) in
      row-tree_after (Snoc (front f) (Of x) x.results (Snoc body_case (ElseCase turn) 0 (tree_after Nil other))) rest fit_rest after
      (an_if_else (front f) x x.results (last f) 0 (tree_after Nil body) turn 0 (tree_after Nil other) opens p.0 es.0 es.1
      (row-tree_after Nil body fit_body in_body no_nodes) (nested-code body fit_body in_body)
      turns of_turn (row-tree_after Nil other fit_other in_other no_nodes) (nested-code other fit_other in_other))

  pub row-tree : (code : NestedCode) → IsFit code → AllByRecursion (IsPrinted form) (flat code) → IsRow form (tree code)
  row-tree code h p = row-tree_after Nil code h p no_nodes
