-- Pieces that begin no line: identifiers, and all pieces of types.
use Rattle.std.proofs.Common.{◌≡◌, ℕ, ◌+◌, List, [], ◌∷◌, ◌++◌, Bool, true, false, cond, Option, Some, None, refl, sym, subst, ap₂, ◌∙◌, codes}
use Rattle.std.specs.Prelude.{bytes_eq}
use Rattle.std.specs.List.{flat_map}
use Rattle.std.proofs.lemmas.List.Concat.{flat_map-append}
use Rattle.wasmprinter_spec.specs.Grammar.{Placed}
use Rattle.wasmprinter_spec.specs.Types.{HeapType, Index, RefType, ValType, Ref, StorageType, Val, I8, I16, FieldType, FuncType, CompositeType, FuncComposite, ArrayComposite, StructComposite, SubType}
use Rattle.wasmprinter_spec.specs.Row.{Types}
use Rattle.wasmprinter_spec.specs.Labels.{Named}
use Rattle.wasmprinter_spec.specs.Names.{Names}
use Rattle.wasmprinter_spec.specs.Customs.Hints.{Hint}
use Rattle.wasmprinter_spec.specs.Piece.{Piece, Begin, Break}
use Rattle.wasmprinter_spec.specs.Layout.Groups.{has_break, close, line_group, line_group_space, group_space, numbered_pieces}
use Rattle.wasmprinter_spec.specs.Layout.Identifiers.{given_pieces, id_and_name_pieces, leading_id_and_name_pieces, id_and_name_space_pieces, identifier_space_pieces, declaration_pieces, index_pieces}
use Rattle.wasmprinter_spec.specs.Layout.ValTypes.{type_index_pieces, heap_pieces, null_ref_pieces, ref_pieces_by, ref_pieces, val_pieces, type_list}
use Rattle.wasmprinter_spec.specs.Layout.Variables.{Variables, Alone, Together, variable_groups, variables_pieces, groups_pieces}
use Rattle.wasmprinter_spec.specs.Layout.Operators.{hint_pieces}
use Rattle.wasmprinter_spec.specs.Layout.Types.{parameters_of, list_group, signature_pieces, signature_if_any, type_use_pieces, storage_pieces, field_pieces_by, field_pieces, struct_field_pieces, composite_pieces, final_pieces, supertype_pieces, sub_group, sub_pieces_by, sub_pieces, type_pieces}

-- The lines that a piece begins
abbrev pub starts : Piece → List (Option ℕ)
starts (Begin place) = Some place ∷ []
starts (Break place nesting) = place ∷ []
starts _ = []

-- The pieces begin no line.
pub record IsOneLine (ps : List Piece) : Type 0 where
  pub begins : flat_map starts ps ≡ []

pub nothing_stays : IsOneLine []
nothing_stays = record { begins = refl }

pub both_stay : {ps qs : List Piece} → IsOneLine ps → IsOneLine qs → IsOneLine (ps ++ qs)
both_stay {ps} {qs} h k = record { begins = flat_map-append starts ps qs ∙ ap₂ (λ (xs ys : List (Option ℕ)). xs ++ ys) h.begins k.begins }

-- If a piece and the pieces after it begin no line, neither do they together.
pub then_stay : {p : Piece} {ps : List Piece} → starts p ≡ [] → IsOneLine ps → IsOneLine (p ∷ ps)
then_stay e h = record { begins = ap₂ (λ (xs ys : List (Option ℕ)). xs ++ ys) e h.begins }

pub alone_stays : {p : Piece} → starts p ≡ [] → IsOneLine (p ∷ [])
alone_stays e = then_stay e nothing_stays

pub cond_stays : {ps qs : List Piece} (b : Bool) → IsOneLine ps → IsOneLine qs → IsOneLine (cond b ps qs)
cond_stays true h k = h
cond_stays false h k = k

-- ---- groups

pub line_group_stays : (w : List ℕ) {ps : List Piece} → IsOneLine ps → IsOneLine (line_group w ps)
unfolding line_group
line_group_stays w h = then_stay refl (both_stay h (alone_stays refl))

pub line_group_space_stays : (w : List ℕ) {ps : List Piece} → IsOneLine ps → IsOneLine (line_group_space w ps)
unfolding line_group_space
line_group_space_stays w h = then_stay refl (both_stay h (alone_stays refl))

-- Pieces that begin no line contain no break.
pub unbroken : (ps : List Piece) → flat_map starts ps ≡ [] → has_break ps ≡ false
unbroken [] e = refl
unbroken (Begin place ∷ ps) e = absurd cc
unbroken (Break place nesting ∷ ps) e = absurd cc
unbroken (p ∷ ps) e = unbroken ps e

-- Pieces that are `IsOneLine` contain no break.
pub stays_unbroken : {ps : List Piece} → IsOneLine ps → has_break ps ≡ false
stays_unbroken {ps} h = unbroken ps h.begins

-- After pieces that begin no line, a group closes on their line.
pub close_stays : (nesting : ℕ) {ps : List Piece} → IsOneLine ps → IsOneLine (close None nesting (has_break ps))
close_stays nesting {ps} h = subst (λ (b : Bool). IsOneLine (close None nesting b)) (sym (unbroken ps h.begins)) (alone_stays refl)

pub group_space_stays : (nesting : ℕ) (w : List ℕ) {ps : List Piece} → IsOneLine ps → IsOneLine (group_space nesting w ps)
unfolding group_space
group_space_stays nesting w h = then_stay refl (both_stay h (close_stays nesting h))

pub numbered_stay : {A : Type 0} (f : ℕ → A → List Piece) → ((i : ℕ) (x : A) → IsOneLine (f i x)) → (i : ℕ) (xs : List A) → IsOneLine (numbered_pieces f i xs)
unfolding numbered_pieces
numbered_stay f h i [] = nothing_stays
numbered_stay f h i (x ∷ xs) = both_stay (h i x) (numbered_stay f h (i + 1) xs)

-- ---- identifiers

given_stays : (given : Option (List ℕ)) (content : List ℕ) → IsOneLine (given_pieces given content)
given_stays None content = nothing_stays
given_stays (Some s) content = cond_stays (bytes_eq s content) nothing_stays (then_stay refl (alone_stays refl))

pub id_and_name_stays : (n : Named) → IsOneLine (id_and_name_pieces n)
unfolding id_and_name_pieces
id_and_name_stays n = then_stay refl (given_stays n.given n.content)

pub leading_id_and_name_stays : (n : Option Named) → IsOneLine (leading_id_and_name_pieces n)
unfolding leading_id_and_name_pieces
leading_id_and_name_stays None = nothing_stays
leading_id_and_name_stays (Some n) = then_stay refl (id_and_name_stays n)

pub id_and_name_space_stays : (n : Option Named) → IsOneLine (id_and_name_space_pieces n)
unfolding id_and_name_space_pieces
id_and_name_space_stays None = nothing_stays
id_and_name_space_stays (Some n) = both_stay (id_and_name_stays n) (alone_stays refl)

identifier_space_stays : (n : Option Named) → IsOneLine (identifier_space_pieces n)
unfolding identifier_space_pieces
identifier_space_stays None = nothing_stays
identifier_space_stays (Some n) = then_stay refl (alone_stays refl)

pub declaration_stays : (n : Option Named) (i : ℕ) → IsOneLine (declaration_pieces n i)
unfolding declaration_pieces
declaration_stays n i = then_stay refl (both_stay (id_and_name_space_stays n) (then_stay refl (alone_stays refl)))

pub index_stays : (n : Option Named) (i : ℕ) → IsOneLine (index_pieces n i)
unfolding index_pieces
index_stays None i = alone_stays refl
index_stays (Some n) i = then_stay refl (then_stay refl (alone_stays refl))

-- ---- types

module _ (names : Names) where
  pub type_index_stays : (n : ℕ) → IsOneLine (type_index_pieces names n)
  unfolding type_index_pieces
  type_index_stays n = index_stays (names.items Types n) n

  pub heap_stays : (h : HeapType) → IsOneLine (heap_pieces names h)
  unfolding heap_pieces
  heap_stays (Index n) = type_index_stays n
  heap_stays _ = alone_stays refl

  null_ref_stays : (h : HeapType) → IsOneLine (null_ref_pieces names h)
  unfolding null_ref_pieces
  null_ref_stays (Index n) = line_group_stays (codes "ref") (then_stay refl (then_stay refl (then_stay refl (heap_stays (Index n)))))
  null_ref_stays _ = alone_stays refl

  ref_by_stays : (null : Bool) (h : HeapType) → IsOneLine (ref_pieces_by names null h)
  ref_by_stays true h = null_ref_stays h
  ref_by_stays false h = line_group_space_stays (codes "ref") (heap_stays h)

  pub ref_stays : (r : RefType) → IsOneLine (ref_pieces names r)
  unfolding ref_pieces
  ref_stays r = ref_by_stays r.nullable r.heap

  pub val_stays : (t : ValType) → IsOneLine (val_pieces names t)
  unfolding val_pieces
  val_stays (Ref r) = ref_stays r
  val_stays _ = alone_stays refl

  pub type_list_stays : (ts : List ValType) → IsOneLine (type_list names ts)
  unfolding type_list
  type_list_stays [] = nothing_stays
  type_list_stays (t ∷ ts) = then_stay refl (both_stay (val_stays t) (type_list_stays ts))

  -- ---- variables

  pub variables_stay : (w : List ℕ) (v : Variables) → IsOneLine (variables_pieces names w v)
  unfolding variables_pieces
  variables_stay w (Alone n t) = line_group_stays w (then_stay refl (both_stay (id_and_name_space_stays (Some n)) (val_stays t)))
  variables_stay w (Together ts) = line_group_stays w (type_list_stays ts)

  pub groups_stay : (w : List ℕ) (gs : List Variables) → IsOneLine (groups_pieces names w gs)
  unfolding groups_pieces
  groups_stay w [] = nothing_stays
  groups_stay w (g ∷ gs) = then_stay refl (both_stay (variables_stay w g) (groups_stay w gs))

  -- ---- signatures

  list_group_stays : (w : List ℕ) (ts : List ValType) → IsOneLine (list_group names w ts)
  unfolding list_group
  list_group_stays w [] = nothing_stays
  list_group_stays w (t ∷ ts) = then_stay refl (line_group_stays w (type_list_stays (t ∷ ts)))

  signature_stays : (f : Option ℕ) (t : FuncType) → IsOneLine (signature_pieces names f t)
  unfolding signature_pieces
  signature_stays f t = both_stay (groups_stay (codes "param") (variable_groups (parameters_of names f) 0 t.params)) (list_group_stays (codes "result") t.results)

  signature_if_any_stays : (f : Option ℕ) (t : Option FuncType) → IsOneLine (signature_if_any names f t)
  signature_if_any_stays f None = nothing_stays
  signature_if_any_stays f (Some t) = signature_stays f t

  pub type_use_stays : (f : Option ℕ) (i : ℕ) (t : Option FuncType) → IsOneLine (type_use_pieces names f i t)
  unfolding type_use_pieces
  type_use_stays f i t = both_stay (line_group_space_stays (codes "type") (type_index_stays i)) (signature_if_any_stays f t)

  -- ---- composite types

  storage_stays : (s : StorageType) → IsOneLine (storage_pieces names s)
  unfolding storage_pieces
  storage_stays (Val t) = val_stays t
  storage_stays I8 = alone_stays refl
  storage_stays I16 = alone_stays refl

  field_by_stays : (b : Bool) (s : StorageType) → IsOneLine (field_pieces_by names b s)
  field_by_stays true s = then_stay refl (then_stay refl (both_stay (storage_stays s) (alone_stays refl)))
  field_by_stays false s = storage_stays s

  field_stays : (n : Option Named) (f : FieldType) → IsOneLine (field_pieces names n f)
  unfolding field_pieces
  field_stays n f = then_stay refl (both_stay (identifier_space_stays n) (field_by_stays f.mutable f.storage))

  struct_field_stays : (n : Option Named) (f : FieldType) → IsOneLine (struct_field_pieces names n f)
  unfolding struct_field_pieces
  struct_field_stays n f = then_stay refl (then_stay refl (both_stay (field_stays n f) (alone_stays refl)))

  composite_stays : (i : ℕ) (c : CompositeType) → IsOneLine (composite_pieces names i c)
  unfolding composite_pieces
  composite_stays i (FuncComposite t) = line_group_stays (codes "func") (signature_stays None t)
  composite_stays i (ArrayComposite f) = line_group_stays (codes "array") (field_stays None f)
  composite_stays i (StructComposite fs) =
      line_group_stays (codes "struct") (numbered_stay (λ k f. struct_field_pieces names (names.fields i k) f) (λ k f. struct_field_stays (names.fields i k) f) 0 fs)

  -- ---- subtypes

  final_stays : (b : Bool) → IsOneLine (final_pieces names b)
  final_stays true = then_stay refl (alone_stays refl)
  final_stays false = nothing_stays

  supertypes_stay : (is : List ℕ) → IsOneLine (supertype_pieces names is)
  unfolding supertype_pieces
  supertypes_stay [] = nothing_stays
  supertypes_stay (i ∷ is) = both_stay (type_index_stays i) (then_stay refl (supertypes_stay is))

  sub_group_stays : (i : ℕ) (final : Bool) (supers : List ℕ) (c : CompositeType) → IsOneLine (sub_group names i final supers c)
  unfolding sub_group
  sub_group_stays i final supers c = line_group_stays (codes "sub") (then_stay refl (both_stay (final_stays final) (both_stay (supertypes_stay supers) (composite_stays i c))))

  sub_by_stays : (i : ℕ) (final : Bool) (supers : List ℕ) (c : CompositeType) → IsOneLine (sub_pieces_by names i final supers c)
  sub_by_stays i true [] c = composite_stays i c
  sub_by_stays i true (s ∷ supers) c = sub_group_stays i true (s ∷ supers) c
  sub_by_stays i false supers c = sub_group_stays i false supers c

  sub_stays : (i : ℕ) (t : SubType) → IsOneLine (sub_pieces names i t)
  unfolding sub_pieces
  sub_stays i t = sub_by_stays i t.final t.supertypes t.composite

  pub type_stays : (i : ℕ) (t : SubType) → IsOneLine (type_pieces names i t)
  unfolding type_pieces
  type_stays i t = line_group_space_stays (codes "type") (both_stay (declaration_stays (names.items Types i) i) (then_stay refl (sub_stays i t)))

-- ---- hints

-- A hint has a line of its own. So if pieces contain a break, they contain one with or without a hint before them.
pub hint_breaks : (nesting : ℕ) (h : Option (Placed Hint)) (ps : List Piece) → has_break ps ≡ true → has_break (hint_pieces nesting h ++ ps) ≡ true
hint_breaks nesting None ps e = e
hint_breaks nesting (Some h) ps e = refl
