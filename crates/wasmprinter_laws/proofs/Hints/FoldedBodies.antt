-- The hints of the text of a body, flat or folded: each is before its operator or the group of its operator.
use Rattle.std.proofs.Common.{◌≡◌, ℕ, ◌+◌, ◌-◌, Bool, true, false, ◌||◌, cond, List, [], ◌∷◌, ◌++◌, map, length, Option, Some, None, refl, sym, ap, ◌∙◌, subst, codes, bytes_eq, true≢false}
use Rattle.std.specs.List.{AllByRecursion, list_any}
use Rattle.wasmprinter_spec.specs.Grammar.{Placed, ◌>>=◌}
use Rattle.wasmprinter_spec.specs.Forest.{Forest}
use Rattle.wasmprinter_spec.specs.Operator.{Operator}
use Rattle.wasmprinter_spec.specs.Row.{Role}
use Rattle.wasmprinter_spec.specs.Table.{role_of}
use Rattle.wasmprinter_spec.specs.Nesting.{Nests, Sequence}
use Rattle.wasmprinter_spec.specs.Instructions.{roles}
use Rattle.wasmprinter_spec.specs.Module.{without_places}
use Rattle.wasmprinter_spec.specs.Labels as labels
use Rattle.wasmprinter_spec.specs.Labels.{labels_after, count_after}
use Rattle.wasmprinter_spec.specs.Names.{AreNamed}
use Rattle.wasmprinter_spec.specs.Customs.Hints.{Hint, next_hint, hints_after}
use Rattle.wasmprinter_spec.specs.HintsOfModule.{OperatorHint}
use Rattle.wasmprinter_spec.specs.Code.{Chunk, chunks_of_forest}
use Rattle.wasmprinter_spec.specs.Layout.Declarations.{Folding}
use Rattle.wasmprinter_spec.specs.Layout.Operators.{Setting}
use Rattle.wasmprinter_spec.specs.Layout.Folded.{item, items}
use Rattle.wasmprinter_spec.specs.Folding.Arities.{Signatures, label_of_block}
use Rattle.wasmprinter_spec.specs.Folding.Code.{AreWithoutTry}
use Rattle.wasmprinter_spec.specs.Folding.Tree.{tree}
use Rattle.wasmprinter_spec.specs.Folding.Refusals.{is_hintless, place_if_misplaced, misplaced_hints_in}
use Rattle.wasmprinter_spec.specs.Text.Hints.{header_words, body_of, chunk_hints}
use Rattle.wasmprinter_laws.proofs.Tokens.Noted.{Noted, no_items, a_word, a_group, a_note}
use Rattle.wasmprinter_laws.specs.Listed.{IsListed, AreSignaturesInRange}
use Rattle.wasmprinter_laws.proofs.Bytes.{bytes_same, same_bytes}
use Rattle.wasmprinter_laws.proofs.Tabled.{StandsAlone, differs}
use Rattle.wasmprinter_laws.proofs.Folded.Items.{item_chunk, noted_chunk, own_chunk, IsHintless}
use Rattle.wasmprinter_laws.proofs.Folded.ReadBack.{tree_row, tree_unfolds_at}
use Rattle.wasmprinter_laws.proofs.Folded.Lists.{AreFoldable, is_folding, code_items, folded_items, list_items, has_tree}
use Rattle.wasmprinter_laws.proofs.Folded.Begins.{BeginsCode, row_begins}
use Rattle.wasmprinter_laws.proofs.Each.{nothing_joined}
use Rattle.wasmprinter_laws.proofs.Hints.Bodies.{own_hint, taken_hints, flag-byte, operators_hints}
use Rattle.wasmprinter_laws.proofs.Hints.Bare.{noted_hints}

-- ---- the start of a body

other_way : (v w : List ℕ) → bytes_eq w v ≡ false → bytes_eq v w ≡ false
other_way v w e = by (bytes_eq v w) refl
  where
    by : (t : Bool) → bytes_eq v w ≡ t → t ≡ false
    by true k = absurd (true≢false (sym (same_bytes w) ∙ ap (λ x. bytes_eq w x) (sym (bytes_same v w k)) ∙ e))
    by false k = refl

neither : (p q : Bool) → p ≡ false → q ≡ false → (p || q) ≡ false
neither true q e f = e
neither false q e f = f

-- An operator is not part of a header.
not_header : (w : List ℕ) → StandsAlone w → list_any (λ v. bytes_eq v w) header_words ≡ false
not_header w a =
    neither _ _ (other_way (codes "type") w (differs w (codes "type") a refl))
    (neither _ _ (other_way (codes "param") w (differs w (codes "param") a refl))
    (neither _ _ (other_way (codes "result") w (differs w (codes "result") a refl))
    (neither _ _ (other_way (codes "local") w (differs w (codes "local") a refl)) refl)))

begins_noted : {z g : Forest} → Noted z g → BeginsCode g → body_of z ≡ z
begins_noted no_items b = refl
begins_noted (a_word n) b = refl
begins_noted (a_group (a_word {s} m) n) b = rw (not_header s b)
begins_noted (a_note {id} m n) b = rw b
begins_noted _ b = absurd b

-- ---- the hints of the operators of a list

chunk_with : (f k : ℕ) (hint : Option (Placed Hint)) (c : Chunk) → c.hints ≡ [] → (cs : List Chunk) (rs : List OperatorHint) → chunk_hints f (k + 1) cs ≡ Some rs →
    chunk_hints f k (noted_chunk true hint c ∷ cs) ≡ Some (own_hint f k hint ++ rs)
chunk_with f k None c none cs rs e = rw (none, e)
chunk_with f k (Some h) c none cs rs e = rw (none, flag-byte h.value.taken, e)

not_misplaced : (r : Role) (h : Option (Placed Hint)) → place_if_misplaced r h ≡ [] → is_hintless r ≡ true → h ≡ None
not_misplaced r None e k = refl
not_misplaced r (Some h) e k =
    let wrong : ◌≡◌ {A = List ℕ} (h.place ∷ []) [] = ap (λ t. cond t (h.place ∷ []) []) (sym k) ∙ e in
    absurd cc

module _ (s : Setting) (signatures : Signatures) (f : ℕ) where
  items_hints : (os : List (Placed Operator)) (hs : List (Placed Hint)) (n : ℕ) (xs : List labels.Label) (ls : List (Option ℕ)) (k : ℕ) →
      chunk_hints f k (map (own_chunk true) (items s signatures hs n xs ls os)) ≡ Some (taken_hints f k s.body hs os)
  unfolding items
  items_hints [] hs n xs ls k = refl
  items_hints (o ∷ os) hs n xs ls k =
      let r : Role = role_of o.value.opcode in
      let own : labels.Label = s.names.labels s.function n (length xs) in
      let offset : ℕ = o.place - s.body in
      let ls2 : List (Option ℕ) = labels_after r (label_of_block signatures o.value) ls in
      chunk_with f k (next_hint offset hs) (item_chunk (item s signatures (next_hint offset hs) own xs ls o)) refl
      (map (own_chunk true) (items s signatures (hints_after offset hs) (count_after r n) (labels_after r own xs) ls2 os)) (taken_hints f (k + 1) s.body (hints_after offset hs) os)
      (items_hints os (hints_after offset hs) (count_after r n) (labels_after r own xs) ls2 (k + 1))

  pub all_hintless : (os : List (Placed Operator)) (hs : List (Placed Hint)) (n : ℕ) (xs : List labels.Label) (ls : List (Option ℕ)) → misplaced_hints_in s.body hs os ≡ [] →
      AllByRecursion (IsHintless true) (items s signatures hs n xs ls os)
  unfolding items
  all_hintless [] hs n xs ls e = tt
  all_hintless (o ∷ os) hs n xs ls e =
      let r : Role = role_of o.value.opcode in
      let hint : Option (Placed Hint) = next_hint (o.place - s.body) hs in
      let parts = nothing_joined (place_if_misplaced r hint) (misplaced_hints_in s.body (hints_after (o.place - s.body) hs) os) e in
      (not_misplaced r hint parts.0, all_hintless os (hints_after (o.place - s.body) hs) _ _ _ parts.1)

  folded_hints : AreNamed s.names → AreSignaturesInRange s.signature → (hs : List (Placed Hint)) (os : List (Placed Operator)) → AllByRecursion IsListed (without_places os) →
      Nests Sequence (roles os) → AreWithoutTry (roles os) → misplaced_hints_in s.body hs os ≡ [] → (z : Forest) → Noted z (folded_items true s signatures hs os) →
      (chunks_of_forest (body_of z) >>= chunk_hints f 0) ≡ Some (taken_hints f 0 s.body hs os)
  folded_hints named ranged hs os l n t fit z m =
      let code = has_tree s signatures hs os n t in
      let own : Noted z (code_items true (Some code.0)) = subst (λ c. Noted z (code_items true c)) code.1 m in
      let begins : BeginsCode (code_items true (Some code.0)) = row_begins true s.form (tree code.0) (tree_row s named ranged signatures hs os l code.0 code.1) in
      ap (λ x. chunks_of_forest x >>= chunk_hints f 0) (begins_noted own begins)
      ∙ noted_hints f 0 own
      ∙ ap (λ o. o >>= chunk_hints f 0) (tree_unfolds_at s named ranged signatures hs os l code.0 code.1 true (all_hintless os hs 0 [] [] fit))
      ∙ items_hints os hs 0 [] [] 0

-- ---- flat or folded

-- The operators of a body have these hints.
pub list_hints : (folding : Option Folding) (own : Option ℕ) (s : Setting) (f : ℕ) → AreNamed s.names → AreSignaturesInRange s.signature → (hs : List (Placed Hint)) (os : List (Placed Operator)) →
    AllByRecursion IsListed (without_places os) → Nests Sequence (roles os) → AreFoldable folding os → (is_folding folding ≡ true → misplaced_hints_in s.body hs os ≡ []) →
    (z : Forest) → Noted z (list_items true folding own s hs os) → (chunks_of_forest (body_of z) >>= chunk_hints f 0) ≡ Some (taken_hints f 0 s.body hs os)
list_hints None own s f named ranged hs os l n t fit z m = operators_hints s f hs os l z m
list_hints (Some x) own s f named ranged hs os l n t fit z m = folded_hints s (x.signatures own) f named ranged hs os l n t (fit refl) z m
