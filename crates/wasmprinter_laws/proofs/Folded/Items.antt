-- The operators of a list with their pieces: the items that the pieces write, and which operators of the flat text
-- they are
use Rattle.std.proofs.Common.{◌≡◌, ℕ, ◌-◌, Bool, true, false, List, [], ◌∷◌, length, map, Option, Some, None, refl, sym, ap, ap₂, ◌∙◌, subst, codes}
use Rattle.std.specs.List.{AllByRecursion}
use Rattle.wasmprinter_spec.specs.Grammar.{Placed}
use Rattle.wasmprinter_spec.specs.Token.{Token}
use Rattle.wasmprinter_spec.specs.Forest.{Forest, End, String, grow, the_one, without_annotations}
use Rattle.wasmprinter_spec.specs.Operator.{Operator}
use Rattle.wasmprinter_spec.specs.Row.{Role, Plain, Opens, OpensIf, OpensTry, Else, Catches, CatchesAll, Delegates, Ends}
use Rattle.wasmprinter_spec.specs.Table.{rows_of, word_of, role_of, shape_of}
use Rattle.wasmprinter_spec.specs.Labels.{Label, labels_after, count_after, labels_outside, labels_inside}
use Rattle.wasmprinter_spec.specs.Module.{without_places}
use Rattle.wasmprinter_spec.specs.Customs.Hints.{Hint, next_hint, hints_after}
use Rattle.wasmprinter_spec.specs.Names.{IsNamedIfAny, AreNamed}
use Rattle.wasmprinter_spec.specs.Piece.{Piece, Word, flag_byte}
use Rattle.wasmprinter_spec.specs.Layout.Operators.{Form, Setting, pieces_by}
use Rattle.wasmprinter_spec.specs.Layout.Folded.{item, items}
use Rattle.wasmprinter_spec.specs.Folding.Arities.{Signatures, label_of_block}
use Rattle.wasmprinter_spec.specs.Folding.Code.{Item, role}
use Rattle.wasmprinter_spec.specs.Folding.Refusals.{is_hintless}
use Rattle.wasmprinter_spec.specs.Folding.Unfolding.{Told, told_by_role, told_of}
use Rattle.wasmprinter_spec.specs.Code.{Chunk, chunk, word_chunk, with_hint_group, role_by}
use Rattle.wasmprinter_laws.proofs.Tokens.Grown.{one-flat}
use Rattle.wasmprinter_laws.proofs.Tokens.Noted.{noted-without_annotations}
use Rattle.wasmprinter_laws.proofs.Tokens.Pieces.{Edge, Bound}
use Rattle.wasmprinter_laws.proofs.Tokens.Respelled.{all_lexed}
use Rattle.wasmprinter_laws.proofs.Tokens.Writes.{Writes, writes_lexed}
use Rattle.wasmprinter_laws.specs.Listed.{IsListed, AreSignaturesInRange}
use Rattle.wasmprinter_laws.proofs.Operators.Arguments.{AreArguments}
use Rattle.wasmprinter_laws.proofs.Operators.Forms.{after}
use Rattle.wasmprinter_laws.proofs.Operators.Immediates.{items_by, arguments_by, writes_by}
use Rattle.wasmprinter_laws.proofs.Operators.Open.{outside_labels, after_labels}
use Rattle.wasmprinter_laws.proofs.Operators.Lists.{arguments_items, chunks_of}
use Rattle.wasmprinter_spec.proofs.OneLine.{IsOneLine, then_stay}
use Rattle.wasmprinter_spec.proofs.ImmediateLines.{by_shape_stay}
use Rattle.wasmprinter_laws.proofs.Folded.Words.{IsBare, turn_is_bare, end_is_bare, role_by-rows}

-- ---- the items that pieces write

abbrev pub forest_or_end : Option Forest → Forest
forest_or_end None = End
forest_or_end (Some f) = without_annotations f

-- The items of pieces, without annotations
abbrev pub items_of : List Piece → Forest
items_of ps = forest_or_end (the_one (grow (all_lexed ps)))

pub items_of-writes : {a b : Edge} {ps : List Piece} {f : Forest} → Writes a ps b f → items_of ps ≡ f
items_of-writes w = ap (λ (t : List Token). forest_or_end (the_one (grow t))) (writes_lexed w ∙ w.tokens) ∙ ap forest_or_end (one-flat w.whole) ∙ noted-without_annotations w.noted ∙ w.without

-- ---- one operator

abbrev pub word : Item → List ℕ
word x = word_of x.operator.value.opcode

abbrev pub after_first : List Piece → List Piece
after_first [] = []
after_first (p ∷ ps) = ps

-- The pieces of the immediates, and the items that they write
abbrev pub rest : Item → List Piece
rest x = after_first x.pieces

abbrev pub arguments : Item → Forest
arguments x = items_of (rest x)

-- `else` and `end` have no immediates.
abbrev pub is_bare : Role → Bool
is_bare Else = true
is_bare Ends = true
is_bare _ = false

-- The operator is listed, and its pieces are its word and pieces that may follow a word.
pub record IsPrinted (form : Form) (x : Item) : Type 0 where
  pub listed : IsListed x.operator.value
  pub pieces : x.pieces ≡ Word (word x) ∷ rest x
  pub are : AreArguments (arguments x)
  pub writes : Writes Bound (rest x) (after form) (arguments x)
  pub bare : is_bare (role x) ≡ true → arguments x ≡ End
  pub line : IsOneLine x.pieces

-- The operator as the reader has it
abbrev pub item_chunk : Item → Chunk
item_chunk x = chunk (rows_of (word x)) (arguments x)

-- The same with its hint, if hints are shown
abbrev pub noted_chunk : Bool → Option (Placed Hint) → Chunk → Chunk
noted_chunk true (Some h) c = with_hint_group (String (flag_byte h.value.taken ∷ []) End) c
noted_chunk true None c = c
noted_chunk false h c = c

abbrev pub own_chunk : Bool → Item → Chunk
own_chunk hints x = noted_chunk hints x.hint (item_chunk x)

abbrev pub told_chunk : Bool → Told → Chunk
told_chunk hints None = word_chunk (codes "end")
told_chunk hints (Some x) = own_chunk hints x

abbrev pub told_chunks : Bool → List Told → List Chunk
told_chunks hints ts = map (told_chunk hints) ts

-- If hints are shown, an operator that can't have one in folded text has none.
abbrev pub IsHintless : Bool → Item → Type 0
IsHintless false x = Unit {0}
IsHintless true x = is_hintless (role x) ≡ true → x.hint ≡ None

hintless_chunk : (hints : Bool) (x : Item) → IsHintless hints x → is_hintless (role x) ≡ true → own_chunk hints x ≡ item_chunk x
hintless_chunk false x h e = refl
hintless_chunk true x h e = ap (λ i. noted_chunk true i (item_chunk x)) (h e)

-- The chunk of an `else` is that of its word.
pub turn_chunk : {form : Form} (hints : Bool) (x : Item) → IsPrinted form x → IsHintless hints x → role x ≡ Else → own_chunk hints x ≡ word_chunk (codes "else")
turn_chunk hints x h k e =
    let b : IsBare x.operator.value (codes "else") = turn_is_bare x.operator.value h.listed e in
    hintless_chunk hints x k (ap is_hintless e) ∙ ap₂ (λ w f. chunk (rows_of w) f) b.word (h.bare (ap is_bare e))

end_chunk : {form : Form} (hints : Bool) (x : Item) → IsPrinted form x → IsHintless hints x → role x ≡ Ends → own_chunk hints x ≡ word_chunk (codes "end")
end_chunk hints x h k e =
    let b : IsBare x.operator.value (codes "end") = end_is_bare x.operator.value h.listed e in
    hintless_chunk hints x k (ap is_hintless e) ∙ ap₂ (λ w f. chunk (rows_of w) f) b.word (h.bare (ap is_bare e))

-- The chunk of an operator in the unfolding is its own chunk.
told_item : {form : Form} (hints : Bool) (x : Item) → IsPrinted form x → IsHintless hints x → told_chunk hints (told_by_role (role x) x) ≡ own_chunk hints x
told_item hints x h k = by (role x) refl
  where
    by : (r : Role) → role x ≡ r → told_chunk hints (told_by_role r x) ≡ own_chunk hints x
    by Ends e = sym (end_chunk hints x h k e)
    by Plain e = refl
    by Opens e = refl
    by OpensIf e = refl
    by OpensTry e = refl
    by Else e = refl
    by Catches e = refl
    by CatchesAll e = refl
    by Delegates e = refl

pub told_items : (hints : Bool) (form : Form) (xs : List Item) → AllByRecursion (IsPrinted form) xs → AllByRecursion (IsHintless hints) xs →
    told_chunks hints (told_of xs) ≡ map (own_chunk hints) xs
told_items hints form [] h k = refl
told_items hints form (x ∷ xs) h k = ap₂ (λ c cs. c ∷ cs) (told_item hints x h.0 k.0) (told_items hints form xs h.1 k.1)

-- Without hints, this condition is trivial.
pub unasked : (xs : List Item) → AllByRecursion (IsHintless false) xs
unasked [] = tt
unasked (x ∷ xs) = (tt, unasked xs)

-- The chunks have the roles of the operators.
pub told_roles : (form : Form) (xs : List Item) → AllByRecursion (IsPrinted form) xs → map (λ c. role_by c.rows) (map (own_chunk false) xs) ≡ map role xs
told_roles form [] h = refl
told_roles form (x ∷ xs) h = ap₂ (λ c cs. c ∷ cs) (role_by-rows x.operator.value h.0.listed) (told_roles form xs h.1)

-- ---- the operators of a list

bare_items : (s : Setting) (inner xs : List Label) (own : Label) (o : Operator) (w : List ℕ) → IsBare o w → items_by s inner xs own (shape_of o.opcode) o.immediates ≡ End
bare_items s inner xs own o w b = ap (λ t. items_by s inner xs own t o.immediates) b.shape

bare_by_role : (s : Setting) (inner xs : List Label) (own : Label) (o : Operator) → IsListed o → is_bare (role_of o.opcode) ≡ true →
    items_by s inner xs own (shape_of o.opcode) o.immediates ≡ End
bare_by_role s inner xs own o l h = by (role_of o.opcode) refl h
  where
    by : (r : Role) → role_of o.opcode ≡ r → is_bare r ≡ true → items_by s inner xs own (shape_of o.opcode) o.immediates ≡ End
    by Else e k = bare_items s inner xs own o (codes "else") (turn_is_bare o l e)
    by Ends e k = bare_items s inner xs own o (codes "end") (end_is_bare o l e)
    by _ e k = absurd cc

module _ (s : Setting) (named : AreNamed s.names) (ranged : AreSignaturesInRange s.signature) (signatures : Signatures) where
  item_writes : (own : Label) (xs : List Label) (o : Placed Operator) → AllByRecursion IsNamedIfAny xs → IsNamedIfAny own → IsListed o.value →
      Writes Bound (pieces_by s (labels_inside (role_of o.value.opcode) xs) (labels_outside (role_of o.value.opcode) xs) own (shape_of o.value.opcode) o.value.immediates) (after s.form)
      (arguments_items s own xs o.value)
  item_writes own xs o h k l =
      let is : Role = role_of o.value.opcode in
      writes_by s named ranged (labels_inside is xs) (labels_outside is xs) own (outside_labels is xs h) k (shape_of o.value.opcode) o.value.immediates l.range

  -- The arguments of an operator in a list are those of the flat text.
  pub item_arguments : (hint : Option (Placed Hint)) (own : Label) (xs : List Label) (ls : List (Option ℕ)) (o : Placed Operator) →
      AllByRecursion IsNamedIfAny xs → IsNamedIfAny own → IsListed o.value → arguments (item s signatures hint own xs ls o) ≡ arguments_items s own xs o.value
  item_arguments hint own xs ls o h k l = items_of-writes (item_writes own xs o h k l)

  item_printed : (hint : Option (Placed Hint)) (own : Label) (xs : List Label) (ls : List (Option ℕ)) (o : Placed Operator) →
      AllByRecursion IsNamedIfAny xs → IsNamedIfAny own → IsListed o.value → IsPrinted s.form (item s signatures hint own xs ls o)
  item_printed hint own xs ls o h k l =
      let is : Role = role_of o.value.opcode in
      let e : arguments (item s signatures hint own xs ls o) ≡ arguments_items s own xs o.value = item_arguments hint own xs ls o h k l in
      record {
        listed = l;
        pieces = refl;
        are = subst AreArguments (sym e) (arguments_by s (labels_inside is xs) (labels_outside is xs) own (shape_of o.value.opcode) o.value.immediates l.range);
        writes = subst (Writes Bound (rest (item s signatures hint own xs ls o)) (after s.form)) (sym e) (item_writes own xs o h k l);
        bare = λ b. e ∙ bare_by_role s (labels_inside is xs) (labels_outside is xs) own o.value l b;
        line = then_stay refl (by_shape_stay s (labels_inside is xs) (labels_outside is xs) own (shape_of o.value.opcode) o.value.immediates);
      }

  pub items_printed : (hs : List (Placed Hint)) (n : ℕ) (xs : List Label) (ls : List (Option ℕ)) (os : List (Placed Operator)) →
      AllByRecursion IsNamedIfAny xs → AllByRecursion IsListed (without_places os) → AllByRecursion (IsPrinted s.form) (items s signatures hs n xs ls os)
  unfolding items
  items_printed hs n xs ls [] h l = tt
  items_printed hs n xs ls (o ∷ os) h l =
      let is : Role = role_of o.value.opcode in
      let own : Label = s.names.labels s.function n (length xs) in
      let k : IsNamedIfAny own = named.labels s.function n (length xs) in
      let offset : ℕ = o.place - s.body in (
        item_printed (next_hint offset hs) own xs ls o h k l.0,
        items_printed (hints_after offset hs) (count_after is n) (labels_after is own xs) (labels_after is (label_of_block signatures o.value) ls) os
            (after_labels is own xs k h) l.1,
      )

  -- The chunks of the items are those of the flat text.
  pub items_chunks : (hs : List (Placed Hint)) (n : ℕ) (xs : List Label) (ls : List (Option ℕ)) (os : List (Placed Operator)) →
      AllByRecursion IsNamedIfAny xs → AllByRecursion IsListed (without_places os) →
      map (own_chunk false) (items s signatures hs n xs ls os) ≡ chunks_of s n xs (without_places os)
  unfolding items
  items_chunks hs n xs ls [] h l = refl
  items_chunks hs n xs ls (o ∷ os) h l =
      let is : Role = role_of o.value.opcode in
      let own : Label = s.names.labels s.function n (length xs) in
      let k : IsNamedIfAny own = named.labels s.function n (length xs) in
      let offset : ℕ = o.place - s.body in
      ap₂ (λ f cs. chunk (rows_of (word_of o.value.opcode)) f ∷ cs) (item_arguments (next_hint offset hs) own xs ls o h k l.0)
      (items_chunks (hints_after offset hs) (count_after is n) (labels_after is own xs) (labels_after is (label_of_block signatures o.value) ls) os
      (after_labels is own xs k h) l.1)
