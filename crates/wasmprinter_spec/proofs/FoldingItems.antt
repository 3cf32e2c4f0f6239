-- The operators of the items of a list are the operators of the list. A list can be folded exactly if it is well
-- nested and contains none of `try`, `catch`, `catch_all` and `delegate`.
use Rattle.std.proofs.Common.{subst, ◌≡◌, ℕ, ◌+◌, List, [], ◌∷◌, ◌++◌, map, length, refl, sym, ap, Bool, true, Option, Some, None, option_map}
use Rattle.wasmprinter_spec.specs.Grammar.{Placed}
use Rattle.wasmprinter_spec.specs.Operator.{Operator}
use Rattle.wasmprinter_spec.specs.Row.{Role}
use Rattle.wasmprinter_spec.specs.Nesting.{Nests, Sequence}
use Rattle.wasmprinter_spec.specs.Instructions.{role_at, roles}
use Rattle.wasmprinter_spec.specs.Labels as labels
use Rattle.wasmprinter_spec.specs.Customs.Hints.{Hint}
use Rattle.wasmprinter_spec.specs.Layout.Operators.{Setting, before_word, level, operator_pieces}
use Rattle.wasmprinter_spec.specs.Layout.Folded.{item, items, node_pieces, folded_pieces, NestedListsAreFolded, FoldedListsAreNested}
use Rattle.wasmprinter_spec.specs.Folding.Tree.{tree}
use Rattle.wasmprinter_spec.specs.Folding.Arities.{Signatures}
use Rattle.wasmprinter_spec.specs.Folding.Code.{NestedCode, role, nested_code_of, AreWithoutTry}
use Rattle.wasmprinter_spec.proofs.FoldingCode.{nested_code_of-nested, nested_code_of-nests}

module _ (s : Setting) (t : Signatures) where
  pub operators-items : (os : List (Placed Operator)) (hs : List (Placed Hint)) (n : ℕ) (xs : List labels.Label) (ls : List (Option ℕ))
      → map (λ x. x.operator) (items s t hs n xs ls os) ≡ os
  unfolding items
  operators-items [] hs n xs ls = refl
  operators-items (o ∷ os) hs n xs ls = ap (λ (l : List (Placed Operator)). o ∷ l) (operators-items os _ _ _ _)

  pub roles-items : (os : List (Placed Operator)) (hs : List (Placed Hint)) (n : ℕ) (xs : List labels.Label) (ls : List (Option ℕ))
      → map role (items s t hs n xs ls os) ≡ roles os
  unfolding items
  roles-items [] hs n xs ls = refl
  roles-items (o ∷ os) hs n xs ls = ap (λ (l : List Role). role_at o ∷ l) (roles-items os _ _ _ _)

  -- The pieces of a flat operator are those before its word, followed by the pieces of its item.
  pub operator_pieces-item : (hint : Option (Placed Hint)) (first : Bool) (own : labels.Label) (xs : List labels.Label) (ls : List (Option ℕ)) (o : Placed Operator)
      → operator_pieces s first own xs o ≡ before_word s.form first o.place (s.nesting + level (role_at o) (length xs)) ++ (item s t hint own xs ls o).pieces
  unfolding operator_pieces
  operator_pieces-item hint first own xs ls o = refl

  -- Every list that is well nested and without `try`, `catch`, `catch_all` and `delegate` can be folded.
  pub folded_pieces-nested : NestedListsAreFolded s t
  unfolding folded_pieces
  folded_pieces-nested o color hs os n h =
      let e : map role (items s t hs 0 [] [] os) ≡ roles os = roles-items os hs 0 [] [] in
      let c : (code : NestedCode) × (nested_code_of (items s t hs 0 [] [] os) ≡ Some code) =
      nested_code_of-nested (items s t hs 0 [] [] os) (subst (λ (rs : List Role). Nests Sequence rs) (sym e) n) (subst AreWithoutTry (sym e) h) in
      (node_pieces o color s.form true s.nesting (tree c.0), rw (c.1) refl)

  -- No other list can be folded.
  pub folded_pieces-nests : FoldedListsAreNested s t
  unfolding folded_pieces
  folded_pieces-nests o color hs os ps e =
      let c : (code : NestedCode) × (nested_code_of (items s t hs 0 [] [] os) ≡ Some code) = some_tree (nested_code_of (items s t hs 0 [] [] os)) e in
      subst (λ (rs : List Role). Nests Sequence rs × AreWithoutTry rs) (roles-items os hs 0 [] []) (nested_code_of-nests (items s t hs 0 [] [] os) c.0 c.1)
    where
      some_tree : (c : Option NestedCode) → option_map (λ (code : NestedCode). node_pieces o color s.form true s.nesting (tree code)) c ≡ Some ps → (code : NestedCode) × (c ≡ Some code)
      some_tree None e = absurd cc
      some_tree (Some code) e = (code, refl)
