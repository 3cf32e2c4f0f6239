-- The text of a body, flat or folded, has as many hints as its operators take, and the rest of a function has none.
use Rattle.std.proofs.Common.{◌≡◌, ℕ, ◌<◌, ◌≤◌, ◌+◌, ◌-◌, ◌^◌, Bool, true, false, List, [], ◌∷◌, ◌++◌, length, Option, Some, None, refl, sym, ap, ◌∙◌, subst, codes, arith}
use Rattle.std.proofs.lemmas.List.{length-append}
use Rattle.std.specs.List.{AllByRecursion}
use Rattle.wasmprinter_spec.specs.Grammar.{Placed}
use Rattle.wasmprinter_spec.specs.Forest.{Forest, Word, onto}
use Rattle.wasmprinter_spec.specs.Operator.{Operator}
use Rattle.wasmprinter_spec.specs.Row.{Role, Func}
use Rattle.wasmprinter_spec.specs.Table.{word_of, role_of, shape_of}
use Rattle.wasmprinter_spec.specs.Types.{signature_at}
use Rattle.wasmprinter_spec.specs.Nesting.{Nests, Sequence}
use Rattle.wasmprinter_spec.specs.Instructions.{roles}
use Rattle.wasmprinter_spec.specs.Module.{without_places, locals_of}
use Rattle.wasmprinter_spec.specs.Labels as labels
use Rattle.wasmprinter_spec.specs.Labels.{labels_after, count_after, labels_outside, labels_inside}
use Rattle.wasmprinter_spec.specs.Names.{IsNamedIfAny, AreNamed}
use Rattle.wasmprinter_spec.specs.Placed.{PlacedFunction}
use Rattle.wasmprinter_spec.specs.Customs.Hints.{Hint, FunctionHints, next_hint, hints_after, hints_of_next, entries_after}
use Rattle.wasmprinter_spec.specs.HintsOfModule.{OperatorHint}
use Rattle.wasmprinter_spec.specs.Indexed.{parameter_count}
use Rattle.wasmprinter_spec.specs.Layout.Variables.{variable_groups}
use Rattle.wasmprinter_spec.specs.Layout.Declarations.{Scope, Folding, scope_of_function}
use Rattle.wasmprinter_spec.specs.Layout.Functions.{over_lines, result_count}
use Rattle.wasmprinter_spec.specs.Layout.Operators.{Setting}
use Rattle.wasmprinter_spec.specs.Layout.Folded.{items}
use Rattle.wasmprinter_spec.specs.Folding.Arities.{Signatures, label_of_block}
use Rattle.wasmprinter_spec.specs.Folding.Code.{Item, AreWithoutTry}
use Rattle.wasmprinter_spec.specs.Folding.Tree.{tree}
use Rattle.wasmprinter_spec.specs.Folding.Refusals.{misplaced_hints_in, misplaced_hints_from}
use Rattle.wasmprinter_spec.specs.Text.Hints.{hint_count}
use Rattle.wasmprinter_spec.proofs.FoldingCode.{nested_code_of-tree}
use Rattle.wasmprinter_laws.proofs.Tokens.Pieces.{Free}
use Rattle.wasmprinter_laws.specs.Listed.{IsListed, AreSignaturesInRange}
use Rattle.wasmprinter_laws.proofs.Ranged.{IsRangedFunction}
use Rattle.wasmprinter_laws.proofs.Each.{nothing_joined}
use Rattle.wasmprinter_laws.proofs.Identifiers.{id_items}
use Rattle.wasmprinter_laws.proofs.Types.Trees.{groups_items}
use Rattle.wasmprinter_laws.proofs.Fields.Headers.{use_items}
use Rattle.wasmprinter_laws.proofs.Operators.Immediates.{writes_by}
use Rattle.wasmprinter_laws.proofs.Operators.Lists.{arguments_items, hinted_items}
use Rattle.wasmprinter_laws.proofs.Operators.Open.{outside_labels, after_labels}
use Rattle.wasmprinter_laws.proofs.Folded.Items.{IsHintless, items_printed}
use Rattle.wasmprinter_laws.proofs.Folded.Heads.{heads-tree}
use Rattle.wasmprinter_laws.proofs.Folded.Lists.{IsUncolored, AreFoldable, is_folding, code_items, folded_items, list_items, has_tree}
use Rattle.wasmprinter_laws.proofs.Fields.Functions.{function_hinted, functions_hinted, function_writes}
use Rattle.wasmprinter_laws.proofs.Hints.Bodies.{own_hint, taken_hints, all_taken}
use Rattle.wasmprinter_laws.proofs.Hints.FoldedBodies.{all_hintless}
use Rattle.wasmprinter_laws.proofs.Hints.Counts.{front_count, after_count, written_count, one_if_any, hint_count-hint_items, length-own_hint}
use Rattle.wasmprinter_laws.proofs.Hints.Nodes.{HasBareArguments, bare_arguments, row_count, item_hints, node_hints-tree}

-- One more operator, which takes its hint
taken_count : (f k : ℕ) (hint : Option (Placed Hint)) (rs : List OperatorHint) (n : ℕ) → n ≡ length rs → one_if_any hint + n ≡ length (own_hint f k hint ++ rs)
taken_count f k hint rs n e = omega (arith, e, length-append (own_hint f k hint) rs, length-own_hint f k hint)

-- ---- flat

module _ (s : Setting) (named : AreNamed s.names) (ranged : AreSignaturesInRange s.signature) (f : ℕ) where
  arguments_count : (own : labels.Label) (xs : List labels.Label) (o : Operator) → AllByRecursion IsNamedIfAny xs → IsNamedIfAny own → IsListed o → hint_count (arguments_items s own xs o) ≡ 0
  arguments_count own xs o h k l =
      let role : Role = role_of o.opcode in
      written_count (writes_by s named ranged (labels_inside role xs) (labels_outside role xs) own (outside_labels role xs h) k (shape_of o.opcode) o.immediates l.range)

  operators_count : (hs : List (Placed Hint)) (n : ℕ) (xs : List labels.Label) (os : List (Placed Operator)) (k : ℕ) → AllByRecursion IsNamedIfAny xs → AllByRecursion IsListed (without_places os) →
      hint_count (hinted_items s hs n xs os) ≡ length (taken_hints f k s.body hs os)
  operators_count hs n xs [] k h l = refl
  operators_count hs n xs (o ∷ os) k h l =
      let role : Role = role_of o.value.opcode in
      let own : labels.Label = s.names.labels s.function n (length xs) in
      let own_named : IsNamedIfAny own = named.labels s.function n (length xs) in
      let hint : Option (Placed Hint) = next_hint (o.place - s.body) hs in
      let after : List (Placed Hint) = hints_after (o.place - s.body) hs in
      let a : Forest = arguments_items s own xs o.value in
      let rest : Forest = hinted_items s after (count_after role n) (labels_after role own xs) os in
      hint_count-hint_items hint (Word (word_of o.value.opcode) (onto a rest))
      ∙ ap (λ c. one_if_any hint + c) (after_count a rest (arguments_count own xs o.value h own_named l.0))
      ∙ taken_count f k hint (taken_hints f (k + 1) s.body after os) (hint_count rest)
      (operators_count after (count_after role n) (labels_after role own xs) os (k + 1) (after_labels role own xs own_named h) l.1)

-- ---- folded

module _ (s : Setting) (signatures : Signatures) (f : ℕ) where
  items_count : (os : List (Placed Operator)) (hs : List (Placed Hint)) (n : ℕ) (xs : List labels.Label) (ls : List (Option ℕ)) (k : ℕ) →
      item_hints (items s signatures hs n xs ls os) ≡ length (taken_hints f k s.body hs os)
  unfolding items
  items_count [] hs n xs ls k = refl
  items_count (o ∷ os) hs n xs ls k =
      let r : Role = role_of o.value.opcode in
      let own : labels.Label = s.names.labels s.function n (length xs) in
      let offset : ℕ = o.place - s.body in
      let after : List Item = items s signatures (hints_after offset hs) (count_after r n) (labels_after r own xs) (labels_after r (label_of_block signatures o.value) ls) os in
      taken_count f k (next_hint offset hs) (taken_hints f (k + 1) s.body (hints_after offset hs) os) (item_hints after)
      (items_count os (hints_after offset hs) (count_after r n) (labels_after r own xs) (labels_after r (label_of_block signatures o.value) ls) (k + 1))

  folded_count : AreNamed s.names → AreSignaturesInRange s.signature → (hs : List (Placed Hint)) (os : List (Placed Operator)) → AllByRecursion IsListed (without_places os) →
      Nests Sequence (roles os) → AreWithoutTry (roles os) → misplaced_hints_in s.body hs os ≡ [] →
      hint_count (folded_items true s signatures hs os) ≡ length (taken_hints f 0 s.body hs os)
  folded_count named ranged hs os l n t fit =
      let xs : List Item = items s signatures hs 0 [] [] os in
      let code = has_tree s signatures hs os n t in
      let rule = nested_code_of-tree xs code.0 code.1 in
      let bare : AllByRecursion HasBareArguments xs = bare_arguments s.form xs (items_printed s named ranged signatures hs 0 [] [] os tt l) in
      let hintless : AllByRecursion (IsHintless true) xs = all_hintless s signatures f os hs 0 [] [] fit in
      ap (λ c. hint_count (code_items true c)) code.1
      ∙ row_count (tree code.0) (heads-tree HasBareArguments code.0 (subst (AllByRecursion HasBareArguments) (sym rule.0) bare))
      ∙ node_hints-tree code.0 rule.1 (subst (AllByRecursion (IsHintless true)) (sym rule.0) hintless)
      ∙ ap item_hints rule.0
      ∙ items_count os hs 0 [] [] 0

-- ---- flat or folded

list_count : (folding : Option Folding) (own : Option ℕ) (s : Setting) (f : ℕ) → AreNamed s.names → AreSignaturesInRange s.signature → (hs : List (Placed Hint)) (os : List (Placed Operator)) →
    AllByRecursion IsListed (without_places os) → Nests Sequence (roles os) → AreFoldable folding os → (is_folding folding ≡ true → misplaced_hints_in s.body hs os ≡ []) →
    hint_count (list_items true folding own s hs os) ≡ length (taken_hints f 0 s.body hs os)
list_count None own s f named ranged hs os l n t fit = operators_count s named ranged f hs 0 [] os 0 tt l
list_count (Some x) own s f named ranged hs os l n t fit = folded_count s (x.signatures own) f named ranged hs os l n t (fit refl)

-- ---- functions

module _ (s : Scope) (named : AreNamed s.names) (ranged : AreSignaturesInRange (signature_at s.types)) (bare : IsUncolored s.folding) where
  -- All hints of a function are those of its body.
  function_count : (i : ℕ) (hs : List (Placed Hint)) (f : PlacedFunction) → i < 2 ^ 64 → IsRangedFunction f → AreFoldable s.folding f.body.value.operators →
      (is_folding s.folding ≡ true → misplaced_hints_in f.body.place hs f.body.value.operators ≡ []) →
      hint_count (function_hinted false s i hs f) ≡ length (taken_hints i 0 f.body.place hs f.body.value.operators)
  function_count i hs f small h foldable fit =
      let w = function_writes s named ranged bare {a = Free} refl false false i hs f small h in
      let own : Scope = scope_of_function s i in
      let id : Forest = id_items (s.names.items Func i) in
      let type : Forest = use_items own (Some i) f.type_index in
      let locals : Forest = groups_items s.names (codes "local") (variable_groups (s.names.locals i) (parameter_count (signature_at s.types f.type_index)) (locals_of f.body.value.locals)) in
      let results : Option ℕ = result_count own f.type_index in
      let setting : Setting = over_lines own f.body.place in
      let shown : Bool → Forest = λ t. list_items t s.folding results setting hs f.body.value.operators in
      let none : hint_count (onto id (onto type (onto locals (shown false)))) ≡ 0 = omega (arith, written_count w) in
      let (no_id, after_id) = front_count id (onto type (onto locals (shown false))) none in
      let (no_type, after_type) = front_count type (onto locals (shown false)) after_id in
      let (no_locals, _) = front_count locals (shown false) after_type in
      after_count id (onto type (onto locals (shown true))) no_id
      ∙ after_count type (onto locals (shown true)) no_type
      ∙ after_count locals (shown true) no_locals
      ∙ list_count s.folding results setting i named ranged hs f.body.value.operators h.body.listed h.body.nested foldable fit

  pub functions_count : (es : List FunctionHints) (i : ℕ) (fs : List PlacedFunction) → i + length fs ≤ 2 ^ 64 → AllByRecursion IsRangedFunction fs →
      AllByRecursion (λ f. AreFoldable s.folding f.body.value.operators) fs → (is_folding s.folding ≡ true → misplaced_hints_from es i fs ≡ []) →
      hint_count (functions_hinted false s es i fs) ≡ length (all_taken es i fs)
  functions_count es i [] small k l fit = refl
  functions_count es i (f ∷ fs) small k l fit =
      let own : List OperatorHint = taken_hints i 0 f.body.place (hints_of_next i es) f.body.value.operators in
      let after : List OperatorHint = all_taken (entries_after i es) (i + 1) fs in
      let parts = λ (e : is_folding s.folding ≡ true). nothing_joined (misplaced_hints_in f.body.place (hints_of_next i es) f.body.value.operators) (misplaced_hints_from (entries_after i es) (i + 1) fs) (fit e) in
      let first = function_count i (hints_of_next i es) f (omega (arith, small)) k.0 l.0 (λ e. (parts e).0) in
      let rest = functions_count (entries_after i es) (i + 1) fs (omega (arith, small)) k.1 l.1 (λ e. (parts e).1) in
      omega (arith, first, rest, length-append own after)
