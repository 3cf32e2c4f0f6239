-- Element segments among the fields of a module
use Rattle.std.proofs.Common.{◌≡◌, ℕ, ◌<◌, ◌^◌, Bool, true, false, cond, List, [], ◌∷◌, ◌++◌, Option, Some, None, option_map, map, refl, sym, ap, ◌∙◌, codes, bytes_eq, arith}
use Rattle.std.specs.List.{AllByRecursion}
use Rattle.wasmprinter_spec.specs.Character.{class}
use Rattle.wasmprinter_spec.specs.Grammar.{Placed, ◌>>=◌}
use Rattle.wasmprinter_spec.specs.Forest.{Forest, End, Word, Group, onto}
use Rattle.wasmprinter_spec.specs.Types.{HeapType, Index, RefType, signature_at}
use Rattle.wasmprinter_spec.specs.Row as row
use Rattle.wasmprinter_spec.specs.Names.{AreNamed}
use Rattle.wasmprinter_spec.specs.Operator.{Operator}
use Rattle.wasmprinter_spec.specs.Placed.{ElementMode, Passive, Declared, Active, Items, Functions, Expressions, element_of, ElementEntry}
use Rattle.wasmprinter_spec.specs.Module.{without_places, mode_without_places, items_without_places, element_without_places}
use Rattle.wasmprinter_spec.specs.Indexed.{Counts, IsDeclaredHeap}
use Rattle.wasmprinter_spec.specs.Labels.{Named}
use Rattle.wasmprinter_spec.specs.IndexSpaces.{index, Context}
use Rattle.wasmprinter_spec.specs.Piece as piece
use Rattle.wasmprinter_spec.specs.Layout.Declarations.{Scope}
use Rattle.wasmprinter_spec.specs.Layout.Expressions.{constant_group}
use Rattle.wasmprinter_spec.specs.Layout.Elements as layout
use Rattle.wasmprinter_spec.specs.Layout.Elements.{named_table, mode_pieces, items_pieces, shown_items, element_pieces}
use Rattle.wasmprinter_spec.specs.Text.Items.{identifier_in_front}
use Rattle.wasmprinter_spec.specs.Text.Types.{ref_named, ref_group}
use Rattle.wasmprinter_spec.specs.Text.Elements.{function_indices, expressions, typed_items, items, with_mode, active_in, segment, read_element}
use Rattle.wasmprinter_laws.proofs.Tokens.Pieces.{Free, Bound}
use Rattle.wasmprinter_laws.proofs.Tokens.Writes.{Writes, both_write, nothing_writes, one_space_writes, break_writes, word_writes, line_group_space_writes, group_space_writes}
use Rattle.wasmprinter_laws.specs.Listed.{AreSignaturesInRange}
use Rattle.wasmprinter_laws.proofs.Items.{leading_item-reads}
use Rattle.wasmprinter_laws.proofs.Declarations.{id}
use Rattle.wasmprinter_laws.proofs.Identifiers.{index_items, declaration-items, declaration_writes, index_writes}
use Rattle.wasmprinter_laws.proofs.Folded.Lists.{IsUncolored}
use Rattle.wasmprinter_laws.proofs.Fields.Scopes.{own_id, own_index, AreScoped, own_index-reads, type_bound, type_indices-read, heap_bounded}
use Rattle.wasmprinter_laws.proofs.Ranged.{IsRangedExpression, IsNamedTable, IsRangedMode, AreRangedItems, IsRangedElement}
use Rattle.wasmprinter_laws.proofs.Types.Trees.{ref_items_by, ref_items, ref_writes}
use Rattle.wasmprinter_laws.proofs.Types.Back.{ref_item, identifier_in_front-ref}
use Rattle.wasmprinter_laws.proofs.Fields.Expressions.{constant_held, constant_group_writes, AreIndexed, constant_group-items, IsOffset, offset_stands, no_offset, no_item}

-- ---- the items of element segments

-- The table is printed if the bytes name it.
abbrev pub named_table_items : Scope → Bool → ℕ → Forest → Forest
named_table_items s true t f = Group (Word (codes "table") (own_index s row.Table t)) f
named_table_items s false t f = f

module _ (s : Scope) where
  -- Functions, one after the other
  abbrev pub function_row : List ℕ → Forest
  function_row [] = End
  function_row (i ∷ is) = onto (own_index s row.Func i) (function_row is)

  abbrev pub expressions_items : List (List (Placed Operator)) → Forest
  expressions_items [] = End
  expressions_items (e ∷ es) = Group (constant_held s (codes "item") e) (expressions_items es)

  abbrev pub items_items : Items (Placed Operator) → Forest
  items_items (Functions is) = Word (codes "func") (function_row is)
  items_items (Expressions t es) = onto (ref_items s.names t) (expressions_items es)

  -- The elements, or `...` in a skeleton
  abbrev pub shown_items_items : Bool → Items (Placed Operator) → Forest
  shown_items_items true is = Word (codes "...") End
  shown_items_items false is = items_items is

  -- The mode, before the elements
  abbrev pub mode_items : Bool → ElementMode (Placed Operator) → Forest → Forest
  mode_items names Passive f = f
  mode_items names Declared f = Word (codes "declare") f
  mode_items names (Active t offset) f = named_table_items s names t (Group (constant_held s (codes "offset") offset) f)

  -- An element segment without its identifier
  abbrev pub segment_items : Bool → ElementEntry → Forest
  segment_items skeleton e =
      mode_items e.has_table_index e.element.mode (shown_items_items skeleton e.element.items)

  -- The items of an element segment after its word
  abbrev pub element_items : Bool → ℕ → ElementEntry → Forest
  element_items skeleton i e = onto (own_id s row.Elem i) (segment_items skeleton e)

-- ---- pieces write the items

module _ (s : Scope) (named : AreNamed s.names) (ranged : AreSignaturesInRange (signature_at s.types)) (bare : IsUncolored s.folding) where
  functions_write : (is : List ℕ) → AllByRecursion (λ i. i < 2 ^ 32) is → Writes Bound (layout.function_items s is) Bound (function_row s is)
  unfolding layout.function_items
  functions_write [] h = nothing_writes
  functions_write (i ∷ is) h =
      let small : i < 2 ^ 64 = omega (arith, h.0) in
      one_space_writes refl (both_write (index_writes (s.names.items row.Func i) i (named.items row.Func i) small) (functions_write is h.1))

  expressions_write : (es : List (List (Placed Operator))) → AllByRecursion IsRangedExpression es →
      Writes Bound (layout.expression_items s es) Bound (expressions_items s es)
  unfolding layout.expression_items class
  expressions_write [] h = nothing_writes
  expressions_write (e ∷ es) h =
      one_space_writes refl (both_write (constant_group_writes s named ranged bare (codes "item") e refl refl h.0) (expressions_write es h.1))

  items_write : (is : Items (Placed Operator)) → AreRangedItems is → Writes Free (items_pieces s is) Bound (items_items s is)
  unfolding items_pieces class
  items_write (Functions is) h = word_writes refl (functions_write is h)
  items_write (Expressions t es) h = both_write (ref_writes s.names named t h.0) (expressions_write es h.1)

  shown_items_write : (skeleton : Bool) (is : Items (Placed Operator)) → AreRangedItems is →
      Writes Free (shown_items skeleton s is) Bound (shown_items_items s skeleton is)
  unfolding class
  shown_items_write true is h = word_writes refl nothing_writes
  shown_items_write false is h = items_write is h

  -- The mode and a space are written before the elements.
  mode_writes : (names : Bool) (m : ElementMode (Placed Operator)) → IsRangedMode names m → {qs : List piece.Piece} {f : Forest} → Writes Free qs Bound f →
      Writes Bound (mode_pieces s names m ++ (piece.OneSpace ∷ qs)) Bound (mode_items s names m f)
  unfolding mode_pieces class
  mode_writes names Passive h w = one_space_writes refl w
  mode_writes names Declared h w = one_space_writes refl (word_writes refl (one_space_writes refl w))
  mode_writes names (Active t offset) h {qs} {f} w = by names h.0
    where
      by : (b : Bool) → IsNamedTable b t →
          Writes Bound ((named_table s b t ++ (piece.OneSpace ∷ constant_group s 2 (codes "offset") offset)) ++ (piece.OneSpace ∷ qs)) Bound
          (named_table_items s b t (Group (constant_held s (codes "offset") offset) f))
      by true k =
          let small : t < 2 ^ 64 = omega (arith, k) in
          one_space_writes refl (both_write (both_write
          (line_group_space_writes (codes "table") _ refl refl (index_writes (s.names.items row.Table t) t (named.items row.Table t) small))
          (one_space_writes {a = Bound} refl (constant_group_writes s named ranged bare (codes "offset") offset refl refl h.1))) (one_space_writes refl w))
      by false k = both_write (one_space_writes refl (constant_group_writes s named ranged bare (codes "offset") offset refl refl h.1)) (one_space_writes refl w)

  pub element_writes : (skeleton : Bool) (i : ℕ) (e : Placed ElementEntry) → i < 2 ^ 64 → IsRangedElement e.value →
      Writes Bound (element_pieces skeleton s i e) Bound (Group (Word (codes "elem") (element_items s skeleton i e.value)) End)
  unfolding element_pieces class
  element_writes skeleton i e small h =
      break_writes (group_space_writes 1 (codes "elem") _ refl refl
      (both_write (declaration_writes (s.names.items row.Elem i) i (named.items row.Elem i) small)
      (mode_writes e.value.has_table_index e.value.element.mode h.mode (shown_items_write skeleton e.value.element.items h.items))))

-- ---- the items read back

-- The elements do not start with an identifier.
identifier_in_front-items : (s : Scope) (is : Items (Placed Operator)) → identifier_in_front (items_items s is) ≡ (None, items_items s is)
identifier_in_front-items s (Functions is) = refl
identifier_in_front-items s (Expressions t es) = identifier_in_front-ref s.names t.nullable t.heap (expressions_items s es)

identifier_in_front-segment : (s : Scope) (e : ElementEntry) → identifier_in_front (segment_items s false e) ≡ (None, segment_items s false e)
identifier_in_front-segment s e = by e.has_table_index e.element.mode
  where
    by : (names : Bool) (m : ElementMode (Placed Operator)) →
        identifier_in_front (mode_items s names m (items_items s e.element.items)) ≡
        (None, mode_items s names m (items_items s e.element.items))
    by names Passive = identifier_in_front-items s e.element.items
    by names Declared = refl
    by true (Active t offset) = refl
    by false (Active t offset) = refl

-- The identifier of an element segment is read, and the items after it are left.
pub identifier_in_front-element : (s : Scope) (i : ℕ) (e : ElementEntry) → identifier_in_front (element_items s false i e) ≡ (id (s.names.items row.Elem i), segment_items s false e)
identifier_in_front-element s i e = declaration-items (s.names.items row.Elem i) (segment_items s false e) (identifier_in_front-segment s e)

-- Functions, one after the other, read back.
first_function : (c : Context) (o : Option Named) (i : ℕ) (f : Forest) (is : List ℕ) → index c.spaces.functions (index_items o i) ≡ Some i →
    function_indices c f ≡ Some is → function_indices c (onto (index_items o i) f) ≡ Some (i ∷ is)
first_function c None i f is h k = rw (h, k)
first_function c (Some n) i f is h k = rw (h, k)

module _ (s : Scope) (c : Context) (n : Counts) (scoped : AreScoped s c n) where
  -- Every index in the mode and in the elements is declared.
  abbrev pub IsIndexedMode : ElementMode (Placed Operator) → Type 0
  IsIndexedMode (Active t offset) = (t < n.tables) × AreIndexed s n offset
  IsIndexedMode _ = Unit {0}

  abbrev pub AreIndexedItems : Items (Placed Operator) → Type 0
  AreIndexedItems (Functions is) = AllByRecursion (λ i. i < n.functions) is
  AreIndexedItems (Expressions t es) = IsDeclaredHeap n.types t.heap × AllByRecursion (AreIndexed s n) es

  functions-items : (is : List ℕ) → AllByRecursion (λ i. i < 2 ^ 32) is → AllByRecursion (λ i. i < n.functions) is →
      function_indices c (function_row s is) ≡ Some is
  functions-items [] h d = refl
  functions-items (i ∷ is) h d =
      first_function c (s.names.items row.Func i) i (function_row s is) is
      (own_index-reads s c n scoped row.Func (λ names f. refl) i d.0 h.0) (functions-items is h.1 d.1)

  expressions-items : (es : List (List (Placed Operator))) → AllByRecursion IsRangedExpression es → AllByRecursion (AreIndexed s n) es →
      expressions c (expressions_items s es) ≡ Some (map without_places es)
  expressions-items [] h d = refl
  expressions-items (e ∷ es) h d = rw (constant_group-items s c n scoped (codes "item") no_item e h.0 d.0, expressions-items es h.1 d.1)

  typed_items-items : (t : RefType) (es : List (List (Placed Operator))) → IsDeclaredHeap (type_bound s c n scoped) t.heap → AllByRecursion IsRangedExpression es →
      AllByRecursion (AreIndexed s n) es →
      typed_items c (onto (ref_items s.names t) (expressions_items s es)) ≡ Some (Expressions t (map without_places es))
  typed_items-items t es r h d =
      let rest : Forest = expressions_items s es in
      rw (
        leading_item-reads ref_named (ref_group c.spaces.types) (ref_items s.names t) t rest
            (ref_item s.names c.spaces.types (type_bound s c n scoped) (type_indices-read s c n scoped) t.nullable t.heap r),
        expressions-items es h d,
      )

  -- A reference type does not start as other elements and other modes do.
  items-typed : (null : Bool) (h : HeapType) (f : Forest) → items c (onto (ref_items_by s.names null h) f) ≡ typed_items c (onto (ref_items_by s.names null h) f)
  items-typed true (Index n) f = refl
  items-typed true _ f = refl
  items-typed false h f = refl

  segment-typed : (null : Bool) (h : HeapType) (f : Forest) →
      segment c (onto (ref_items_by s.names null h) f) ≡ with_mode c Passive (onto (ref_items_by s.names null h) f)
  segment-typed true (Index n) f = refl
  segment-typed true _ f = refl
  segment-typed false h f = refl

  items-items : (is : Items (Placed Operator)) → AreRangedItems is → AreIndexedItems is →
      items c (items_items s is) ≡ Some (items_without_places is)
  items-items (Functions is) h d = rw (functions-items is h d)
  items-items (Expressions t es) h d =
      items-typed t.nullable t.heap (expressions_items s es)
      ∙ typed_items-items t es (heap_bounded s c n scoped t.heap h.0 d.0) h.1 d.1

  -- A passive segment reads back.
  segment-passive : (is : Items (Placed Operator)) →
      segment c (items_items s is) ≡ with_mode c Passive (items_items s is)
  segment-passive (Functions is) = refl
  segment-passive (Expressions t es) = segment-typed t.nullable t.heap (expressions_items s es)

  -- An active segment reads back after its table.
  active-items : (t : ℕ) (offset : List (Placed Operator)) (f : Forest) → IsRangedExpression offset → AreIndexed s n offset →
      active_in c t (Group (constant_held s (codes "offset") offset) f) ≡ with_mode c (Active t (without_places offset)) f
  active-items t offset f h d =
      ap (λ o. o >>= λ e. with_mode c (Active t e) f) (constant_group-items s c n scoped (codes "offset") no_offset offset h d)

  -- The group of an offset does not read as a type or a table.
  segment-offset : (g f : Forest) → IsOffset g → segment c (Group g f) ≡ active_in c 0 (Group g f)
  segment-offset g f o =
      let w : List ℕ = o.word in
      let inner : Forest = Group (Word w o.rest) f in
      ap (λ x. segment c (Group x f)) o.is
      ∙ ap (λ b. cond b (with_mode c Passive inner) (cond (bytes_eq w (codes "table")) (index c.spaces.tables o.rest >>= (λ t. active_in c t f))
      (active_in c 0 inner))) o.ref
      ∙ ap (λ b. cond b (index c.spaces.tables o.rest >>= (λ t. active_in c t f)) (active_in c 0 inner)) o.table
      ∙ ap (λ x. active_in c 0 (Group x f)) (sym o.is)

  segment-active : (names : Bool) (t : ℕ) (offset : List (Placed Operator)) (f : Forest) → IsNamedTable names t → t < n.tables → IsRangedExpression offset →
      AreIndexed s n offset →
      segment c (named_table_items s names t (Group (constant_held s (codes "offset") offset) f)) ≡ with_mode c
      (Active t (without_places offset)) f
  segment-active true t offset f small declared h d =
      ap (λ o. o >>= λ i. active_in c i (Group (constant_held s (codes "offset") offset) f))
      (own_index-reads s c n scoped row.Table (λ names f. refl) t declared small)
      ∙ active-items t offset f h d
  segment-active false t offset f zero declared h d =
      segment-offset _ f (offset_stands s offset h) ∙ active-items 0 offset f h d ∙ ap (λ i. with_mode c (Active i (without_places offset)) f) (sym zero)

  segment-items : (names : Bool) (m : ElementMode (Placed Operator)) (is : Items (Placed Operator)) → IsRangedMode names m → IsIndexedMode m →
      segment c (mode_items s names m (items_items s is)) ≡ with_mode c (mode_without_places m)
      (items_items s is)
  segment-items names Passive is h d = segment-passive is
  segment-items names Declared is h d = refl
  segment-items names (Active t offset) is h d = segment-active names t offset _ h.0 d.0 h.1 d.1

  pub read_element-items : (i : ℕ) (e : ElementEntry) → IsRangedElement e → IsIndexedMode e.element.mode → AreIndexedItems e.element.items →
      read_element c (element_items s false i e) ≡ Some (element_without_places e)
  read_element-items i e h d k =
      ap (λ x. segment c x.1) (identifier_in_front-element s i e)
      ∙ segment-items e.has_table_index e.element.mode e.element.items h.mode d
      ∙ ap (option_map (element_of (mode_without_places e.element.mode))) (items-items e.element.items h.items k)
