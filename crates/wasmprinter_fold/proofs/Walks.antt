-- The operators of a list, one by one.
use Rattle.std.specs.Prelude.{◌≡◌, ℕ, ◌+◌, ◌-◌, ◌<◌, ◌^◌, List, [], ◌∷◌, length, map, codes, Bool, true, false, Option, Some, None, option_map}
use Rattle.std.proofs.Common.{refl, sym, ap, ◌∙◌, subst, arith}
use Rattle.wasmprinter_spec.specs.Grammar.{Placed}
use Rattle.wasmprinter_spec.specs.Row as row
use Rattle.wasmprinter_spec.specs.Row.{Role}
use Rattle.wasmprinter_spec.specs.Operator.{Operator}
use Rattle.wasmprinter_spec.specs.Table.{role_of}
use Rattle.wasmprinter_spec.specs.Names.{Names}
use Rattle.wasmprinter_spec.specs.Nesting.{Nests, Sequence}
use Rattle.wasmprinter_spec.specs.Instructions.{role_at, roles}
use Rattle.wasmprinter_spec.specs.Labels.{Label, labels_after, count_after}
use Rattle.wasmprinter_spec.specs.Options.{defaults}
use Rattle.wasmprinter_spec.specs.Customs.Hints.{Hint, next_hint, hints_after}
use Rattle.wasmprinter_spec.specs.Layout.Operators.{Setting}
use Rattle.wasmprinter_spec.specs.Layout.Folded.{item, items, folded_pieces, if_folded}
use Rattle.wasmprinter_spec.specs.Folding.Arities.{Signatures, OperandCounts, counts_of, label_of_block}
use Rattle.wasmprinter_spec.specs.Folding.Code.{Item, NestedCode, nested_code_of, role as item_role, is_try, AreWithoutTry, flat, IsFit}
use Rattle.wasmprinter_spec.specs.Folding.Tree.{tree}
use Rattle.wasmprinter_spec.proofs.FoldingCode.{nested_code_of-tree, nested_code_of-nested, nested_code_of-nests}
use Rattle.wasmprinter_spec.proofs.FoldingItems.{roles-items}
use Rattle.wasmprinter_flat.proofs.Walking.{Fits, own-fits}
use Rattle.wasmprinter_ops.specs.Operators.{placed_view, pairs}
use Rattle.wasmprinter_ops.proofs.Pairs.{first-pair, no-pair}
use Rattle.wasmprinter_flat.specs.OpenLabels.LabelState.{LabelState, names_of, own_label, at_start_again, after_operator}
use Rattle.wasmprinter_flat.proofs.Depths.{after-length, after-count}
use Rattle.wasmprinter_fold.specs.Building.{Top, StateOf, Step, start, state_at, step, step_of, steps, run_all}
use Rattle.wasmprinter_fold.specs.Mapping.{map_nodes}
use Rattle.wasmprinter_fold.proofs.Runs.{run-tree}
use Rattle.wasmprinter_fold.specs.Shown.{ShownNode, shown_head, row_pieces}
use Rattle.wasmprinter_fold.specs.declared.growing_tree.GrowingTree.{GrowingTree}
use Rattle.wasmprinter_fold.specs.Growing.{Shows, GrowsByStep, shown_step, shown_operator, shown_keyword, operator_step, IsGrown}
use Rattle.wasmprinter_fold.proofs.RowLaws.{rows_shown}

-- ---- Places and operators

-- ---- The step of an operator

-- The step of an item is that of the printed text of its operator, by its role.
step-shown : (color : Bool) (s : Setting) (t : Signatures) (hint : Option (Placed Hint)) (l : LabelState) (ls : List (Option ℕ)) (o : Placed Operator) (r : Role) →
    let counts : OperandCounts = counts_of t ls o.value in
    step_of (shown_head color) r (item s t hint (own_label l) l.labels ls o)
    ≡ shown_step r (shown_operator color s l o.place (option_map (λ h. h.value.taken) hint) o.value)
    (shown_keyword color o.place (codes "then")) (shown_keyword color o.place (codes "else")) counts
step-shown color s t hint l ls o row.Plain = refl
step-shown color s t hint l ls o row.Opens = refl
step-shown color s t hint l ls o row.OpensIf = refl
step-shown color s t hint l ls o row.OpensTry = refl
step-shown color s t hint l ls o row.Else = refl
step-shown color s t hint l ls o row.Catches = refl
step-shown color s t hint l ls o row.CatchesAll = refl
step-shown color s t hint l ls o row.Delegates = refl
step-shown color s t hint l ls o row.Ends = refl

-- The step of an item is that of the program's operator, whose settings, identifiers and hint are equal.
step-next : (color other : Bool) (s : Setting) (t : Signatures) (next : Option (Placed Hint)) (hint : Option Bool) (names : Names) (l : LabelState) (ls : List (Option ℕ)) (o : Placed Operator) (r : Role) →
    other ≡ color → names ≡ s.names → hint ≡ option_map (λ h. h.value.taken) next →
    step_of (shown_head color) r (item s t next (own_label l) l.labels ls o)
    ≡ shown_step r (shown_operator other (record s { names = names }) l o.place hint o.value)
    (shown_keyword other o.place (codes "then")) (shown_keyword other o.place (codes "else")) (counts_of t ls o.value)
step-next color other s t next hint names l ls o r e n q =
    let counts : OperandCounts = counts_of t ls o.value in
    step-shown color s t next l ls o r
    ∙ (ap (λ (ns : Names). shown_step r (shown_operator color (record s { names = ns }) l o.place (option_map (λ h. h.value.taken) next) o.value)
    (shown_keyword color o.place (codes "then")) (shown_keyword color o.place (codes "else")) counts) (sym n)
    ∙ rw (e, q) refl)

-- ---- A list of operators

-- The items of a list are the item of its first operator and those of the others.
items-of : (s : Setting) (t : Signatures) (hs : List (Placed Hint)) (n : ℕ) (xs : List Label) (ls : List (Option ℕ)) (os rest : List (Placed Operator)) (o : Placed Operator) → os ≡ o ∷ rest →
    items s t hs n xs ls os
    ≡ item s t (next_hint (o.place - s.body) hs) (s.names.labels s.function n (length xs)) xs ls o
    ∷ items s t (hints_after (o.place - s.body) hs) (count_after (role_at o) n) (labels_after (role_at o) (s.names.labels s.function n (length xs)) xs)
    (labels_after (role_at o) (label_of_block t o.value) ls) rest
unfolding items
items-of s t hs n xs ls os rest o e = ap (λ os. items s t hs n xs ls os) e

items-nil : (s : Setting) (t : Signatures) (hs : List (Placed Hint)) (n : ℕ) (xs : List Label) (ls : List (Option ℕ)) (os : List (Placed Operator)) → os ≡ [] →
    items s t hs n xs ls os ≡ []
unfolding items
items-nil s t hs n xs ls os e = ap (λ os. items s t hs n xs ls os) e

-- The state after the operators of a list, folded one after another.
abbrev pub run_items : Bool → Setting → Signatures → List (Placed Hint) → LabelState → List (Option ℕ) → StateOf ShownNode → List (Placed Operator) → StateOf ShownNode
run_items color s t hs l ls u os = run_all u (steps (shown_head color) (items s t hs l.count l.labels ls os))

-- The loop invariant: all operators before `rest` were folded, and `left` are the hints still to be used. Folding
-- `rest` from here gives the result of folding all operators from the start. None of the folded operators is
-- `try`, `catch`, `catch_all` or `delegate`. Even if each remaining operator opens a block, the number of blocks stays below
-- 2^64.
pub record Progress (color : Bool) (s : Setting) (t : Signatures) (from : LabelState) (hints : List (Placed Hint)) (all rest : List (Placed Operator)) (left : List (Placed Hint)) (l : LabelState) (g : GrowingTree) : Type 0 where
  pub state : StateOf ShownNode
  pub shows : Shows g state
  pub leads : run_items color s t left l g.labels state rest ≡ run_all start (steps (shown_head color) (items s t hints 0 [] [] all))
  pub none_before : AreWithoutTry (roles rest) → AreWithoutTry (roles all)
  pub none_after : AreWithoutTry (roles all) → AreWithoutTry (roles rest)
  pub colors_same : g.texts.color ≡ color
  pub item_names : l.item_names ≡ from.item_names
  pub synthesizes : l.synthesizes ≡ from.synthesizes
  pub fits : Fits s l
  pub counted : l.count + length rest < 2 ^ 64
  pub nested : length l.labels + length rest < 2 ^ 64

-- The invariant holds at the start, before anything is folded.
pub starts : (color : Bool) (s : Setting) (t : Signatures) (from l : LabelState) (hints : List (Placed Hint)) (all os : List (Placed Operator)) (g : GrowingTree) →
    l ≡ at_start_again s.function from → names_of from ≡ s.names → os ≡ all → length all < 2 ^ 64 → Shows g start → g.texts.color ≡ color → g.labels ≡ [] →
    Progress color s t from hints all os hints l g
starts color s t from l hints all os g b n e h w p c = rw (b) (record {
  state = start;
  shows = w;
  leads = rw (c, e) refl;
  none_before = λ a. rw (← e) a;
  none_after = λ a. rw (e) a;
  colors_same = p;
  item_names = refl;
  synthesizes = refl;
  fits = record { names = n; function = refl };
  counted = omega (arith, h, ap length e);
  nested = omega (arith, h, ap length e);
})

module _ {color : Bool} {s : Setting} {t : Signatures} {from : LabelState} {hints : List (Placed Hint)} {all os : List (Placed Operator)} {left : List (Placed Hint)} {l : LabelState} {g : GrowingTree} (p : Progress color s t from hints all os left l g) where
  -- If an operator is left, the number of open blocks plus 1 is below 2^64.
  pub has_room : (rest : List (Placed Operator)) (x : ℕ × Operator) → pairs os ≡ x ∷ pairs rest → length l.labels + 1 < 2 ^ 64
  has_room rest x e = omega (arith, p.nested, ap length (first-pair os rest x e))

  pub has_count : (rest : List (Placed Operator)) (x : ℕ × Operator) → pairs os ≡ x ∷ pairs rest → l.count + 1 < 2 ^ 64
  has_count rest x e = omega (arith, p.counted, ap length (first-pair os rest x e))

  -- A list with `try`, `catch`, `catch_all` or `delegate` has no tree.
  pub refuses : (rest : List (Placed Operator)) (x : ℕ × Operator) → pairs os ≡ x ∷ pairs rest → is_try (role_of x.1.opcode) ≡ true →
      nested_code_of (items s t hints 0 [] [] all) ≡ None
  refuses rest x e h = by_code (nested_code_of (items s t hints 0 [] [] all)) refl
    where
      -- If the list had a tree, none of its operators would be `try`, `catch`, `catch_all` or `delegate`.
      by_code : (c : Option NestedCode) → nested_code_of (items s t hints 0 [] [] all) ≡ c → c ≡ None
      by_code None q = refl
      by_code (Some code) q =
          let w : AreWithoutTry (roles all) =
          subst AreWithoutTry (roles-items s t all hints 0 [] []) (nested_code_of-nests (items s t hints 0 [] [] all) code q).1 in
          let v : AreWithoutTry (roles (placed_view x ∷ rest)) =
          subst (λ (y : List (Placed Operator)). AreWithoutTry (roles y)) (first-pair os rest x e) (p.none_after w) in
          absurd (cc (sym h ∙ v.0))

  -- After the next operator is folded, the invariant holds for the others.
  pub goes_on : (rest : List (Placed Operator)) (x : ℕ × Operator) (role : Role) (k : LabelState) (remaining : List (Placed Hint)) (n : GrowingTree) (hint : Option Bool) →
      pairs os ≡ x ∷ pairs rest → role ≡ role_of x.1.opcode → is_try role ≡ false → k ≡ after_operator role l → remaining ≡ hints_after (x.0 - s.body) left →
      hint ≡ option_map (λ h. h.value.taken) (next_hint (x.0 - s.body) left) → n.texts.color ≡ g.texts.color →
      n.labels ≡ labels_after (role_of x.1.opcode) (label_of_block t x.1) g.labels →
      GrowsByStep g n (operator_step g.texts.color (record s { names = names_of l }) l x.0 hint x.1 (counts_of t g.labels x.1)) →
      Progress color s t from hints all rest remaining k n
  goes_on rest x role k remaining n hint e r y b h q w c f =
      let o : Placed Operator = placed_view x in
      let v = shown_head color in
      let next : Option (Placed Hint) = next_hint (x.0 - s.body) left in
      let after : List (Placed Hint) = hints_after (x.0 - s.body) left in
      let r' : Role = role_of x.1.opcode in
      let counted : List (Option ℕ) = labels_after r' (label_of_block t x.1) g.labels in
      let u : StateOf ShownNode = step p.state (step_of v r' (item s t next (own_label l) l.labels g.labels o)) in
      rw (b, r, h) (record {
        state = u;
        shows =
            subst (λ (y : Step ShownNode). Shows n (step p.state y))
            (sym (step-next color g.texts.color s t next hint (names_of l) l g.labels o r' p.colors_same p.fits.names q)) (f p.state p.shows);
        leads =
            ap (λ (ls : List (Option ℕ)). run_items color s t after (after_operator r' l) ls u rest) c
            ∙ (ap (λ (own : Label). run_all (step p.state (step_of v r' (item s t next own l.labels g.labels o)))
            (steps v (items s t after (count_after r' l.count) (labels_after r' own l.labels) counted rest))) (own-fits s l p.fits)
            ∙ (ap (λ (is : List Item). run_all p.state (steps v is)) (sym (items-of s t left l.count l.labels g.labels os rest o (first-pair os rest x e)))
            ∙ p.leads));
        none_before = λ a. p.none_before (subst (λ (y : List (Placed Operator)). AreWithoutTry (roles y)) (sym (first-pair os rest x e)) (ap is_try (sym r) ∙ y, a));
        none_after = λ a. (subst (λ (y : List (Placed Operator)). AreWithoutTry (roles y)) (first-pair os rest x e) (p.none_after a)).1;
        colors_same = w ∙ p.colors_same;
        item_names = p.item_names;
        synthesizes = p.synthesizes;
        fits = record { names = p.fits.names; function = p.fits.function };
        counted = omega (arith, p.counted, ap length (first-pair os rest x e), after-count (role_of x.1.opcode) l.count);
        nested = omega (arith, p.nested, ap length (first-pair os rest x e), after-length (role_of x.1.opcode) (own_label l) l.labels);
      })

  -- If no operator is left, the tree is that of the whole list.
  pub all_folded : Nests Sequence (roles all) → pairs os ≡ [] → IsGrown color g true (nested_code_of (items s t hints 0 [] [] all))
  all_folded n e =
      let xs : List Item = items s t hints 0 [] [] all in
      let v = shown_head color in
      let w : AreWithoutTry (roles all) = p.none_before (subst (λ (y : List (Placed Operator)). AreWithoutTry (roles y)) (sym (no-pair os e)) tt) in
      let same : map item_role xs ≡ roles all = roles-items s t all hints 0 [] [] in
      let c : (code : NestedCode) × (nested_code_of xs ≡ Some code) =
      nested_code_of-nested xs (subst (λ (rs : List Role). Nests Sequence rs) (sym same) n) (subst AreWithoutTry (sym same) w) in
      let d : (flat c.0 ≡ xs) × IsFit c.0 = nested_code_of-tree xs c.0 c.1 in
      let state : p.state ≡ state_at Top (map_nodes v (tree c.0)) =
      ap (λ (is : List Item). run_all p.state (steps v is)) (sym (items-nil s t left l.count l.labels g.labels os (no-pair os e)))
      ∙ (p.leads ∙ (ap (λ (is : List Item). run_all start (steps v is)) (sym d.0) ∙ run-tree v c.0 d.1)) in
      (c.0, c.1, subst (λ (u : StateOf ShownNode). Shows g u) state p.shows)

-- ---- The layout

-- The layout of a list with a tree is that of its nodes.
pub folded-pieces : (color : Bool) (s : Setting) (t : Signatures) (hints : List (Placed Hint)) (os : List (Placed Operator)) (code : NestedCode) →
    nested_code_of (items s t hints 0 [] [] os) ≡ Some code →
    if_folded (folded_pieces defaults color s t hints os) ≡ row_pieces s.form true s.nesting (map_nodes (shown_head color) (tree code))
unfolding folded_pieces
folded-pieces color s t hints os code e = rw (e) (rows_shown color s.form true s.nesting (tree code))

-- The layout of a list without a tree is empty.
pub no-pieces : (color : Bool) (s : Setting) (t : Signatures) (hints : List (Placed Hint)) (os : List (Placed Operator)) →
    nested_code_of (items s t hints 0 [] [] os) ≡ None → if_folded (folded_pieces defaults color s t hints os) ≡ []
unfolding folded_pieces
no-pieces color s t hints os e = rw (e) refl
