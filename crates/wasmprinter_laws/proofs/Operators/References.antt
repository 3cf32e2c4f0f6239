-- Immediates that are types, and casts: their items, that these read back, and that pieces write them
use Rattle.std.proofs.Common.{◌≡◌, ℕ, Bool, true, false, ◌||◌, not, List, [], ◌∷◌, ◌++◌, Some, None, refl, sym, ap, subst, codes, append-nil}
use Rattle.std.specs.List.{AllByRecursion}
use Rattle.wasmprinter_spec.specs.Character.{class}
use Rattle.wasmprinter_spec.specs.Grammar.{◌>>=◌}
use Rattle.wasmprinter_spec.specs.Forest.{Forest, End, Word, Group, onto}
use Rattle.wasmprinter_spec.specs.Row as row
use Rattle.wasmprinter_spec.specs.Types.{HeapType, Index, RefType, ref_type, ValType}
use Rattle.wasmprinter_spec.specs.Operator.{Types, Heap, Cast}
use Rattle.wasmprinter_spec.specs.Labels.{Label, Named, LabelNaming, AreLabelsApart, is_hidden, Target, Around, Own, Nothing, target}
use Rattle.wasmprinter_spec.specs.Names.{Names, IsNamedIfAny, AreNamed}
use Rattle.wasmprinter_spec.specs.Indexed.{IsDeclaredHeap, IsDeclaredVal}
use Rattle.wasmprinter_spec.specs.Code.{head_by, head, PartHead}
use Rattle.wasmprinter_spec.specs.IndexSpaces.{Context}
use Rattle.wasmprinter_spec.specs.Text.Items.{all_items, groups}
use Rattle.wasmprinter_spec.specs.Text.Types.{ref_named, ref_group, reference_type}
use Rattle.wasmprinter_spec.specs.Text.TypeUses.{same_flag}
use Rattle.wasmprinter_spec.specs.Text.Operators.{first_alone, after_first, select_types, heap_with, cast_parts}
use Rattle.wasmprinter_spec.specs.Piece.{OneSpace}
use Rattle.wasmprinter_spec.specs.Layout.ValTypes.{heap_word, val_pieces, type_list, heap_pieces, ref_pieces}
use Rattle.wasmprinter_spec.specs.Layout.Operators.{label_pieces, select_pieces}
use Rattle.wasmprinter_laws.proofs.Tokens.Grown.{onto-End}
use Rattle.wasmprinter_laws.proofs.Tokens.Pieces.{Free, Bound}
use Rattle.wasmprinter_laws.proofs.Tokens.Writes.{Writes, then, one_space_writes, line_group_writes, line_group_space_writes}
use Rattle.wasmprinter_laws.specs.Listed.{IsU32}
use Rattle.wasmprinter_laws.proofs.Tabled.{no_rows}
use Rattle.wasmprinter_laws.proofs.Items.{one_item-reads, all_items-reads}
use Rattle.wasmprinter_laws.proofs.Identifiers.{Reads}
use Rattle.wasmprinter_laws.proofs.Types.Ranged.{IsRangedHeap, IsRangedVal}
use Rattle.wasmprinter_laws.proofs.Types.Trees.{heap_items, ref_items_by, ref_items, val_items, types_items, heap_writes, ref_writes, val_writes, type_list_writes}
use Rattle.wasmprinter_laws.proofs.Types.Back.{ref_item, val_types-items, same_flag_refl}
use Rattle.wasmprinter_laws.proofs.Operators.Labels.{ids, Opened, named_items, target_items, label_items, label_arguments, label_reads, label_writes}
use Rattle.wasmprinter_laws.proofs.Operators.Arguments.{AreArguments, arguments_onto}
use Rattle.wasmprinter_laws.proofs.Operators.Spaces.{item_arguments}

-- ---- the items

abbrev pub select_items : Names → List ValType → Forest
select_items names ts = Group (Word (codes "result") (types_items names ts)) End

abbrev pub cast_items : Names → List Label → List Label → ℕ → RefType → RefType → Forest
cast_items names inner xs l r t = onto (label_items inner xs l) (onto (ref_items names r) (ref_items names t))

-- ---- arguments

-- No operator has the word `ref`.
ref_head : head (codes "ref") ≡ PartHead
unfolding head
ref_head = ap head_by (no_rows (codes "ref") refl)

module _ (names : Names) where
  pub select_arguments : (ts : List ValType) → AreArguments (select_items names ts)
  unfolding head
  select_arguments ts = (refl, tt)

  pub heap_arguments : (h : HeapType) → IsRangedHeap h → AreArguments (heap_items names h)
  heap_arguments (Index n) r = item_arguments (names.items row.Types n) n r
  heap_arguments h r = (no_rows (heap_word h) refl, tt)

  pub ref_arguments : (null : Bool) (h : HeapType) → AreArguments (ref_items_by names null h)
  ref_arguments true (Index n) = (ref_head, tt)
  ref_arguments true _ = (no_rows _ refl, tt)
  ref_arguments false h = (ref_head, tt)

  pub cast_arguments : (inner xs : List Label) (l : ℕ) (r t : RefType) → IsU32 l → AreArguments (cast_items names inner xs l r t)
  cast_arguments inner xs l r t h =
      arguments_onto (label_items inner xs l) (onto (ref_items names r) (ref_items names t)) (label_arguments inner xs l h)
      (arguments_onto (ref_items names r) (ref_items names t) (ref_arguments r.nullable r.heap) (ref_arguments t.nullable t.heap))

-- ---- the items read back

-- The items of a label are split from those after it.
record IsAlone (f g : Forest) : Type 0 where
  first : first_alone (onto f g) ≡ f
  others : after_first (onto f g) ≡ g

label_alone : (inner xs : List Label) (l : ℕ) (g : Forest) → IsAlone (label_items inner xs l) g
label_alone inner xs l g = by (target l xs)
  where
    named : (n : Named) (h : Bool) → IsAlone (named_items l n h) g
    named n true = record { first = refl; others = refl }
    named n false = record { first = refl; others = refl }

    by : (t : Target) → IsAlone (target_items inner l t) g
    by (Around (Some n) further) = named n (is_hidden n further || is_hidden n inner)
    by (Around None further) = record { first = refl; others = refl }
    by Own = record { first = refl; others = refl }
    by Nothing = record { first = refl; others = refl }

module _ (names : Names) (c : Context) (bound : ℕ) (reads : Reads c.spaces.types (names.items row.Types) bound) where
  pub select_reads : (ts : List ValType) → AllByRecursion (IsDeclaredVal bound) ts → select_types c (select_items names ts) ≡ Some (Types ts)
  unfolding groups
  select_reads ts r = rw (val_types-items names c.spaces.types bound reads ts r, append-nil ts)

  -- A reference type reads back, nullable or not.
  pub ref_reads : (null : Bool) (h : HeapType) → IsDeclaredHeap bound h → reference_type c.spaces.types (ref_items_by names null h) ≡ Some (ref_type null h)
  ref_reads null h r =
      one_item-reads ref_named (ref_group c.spaces.types) (ref_items_by names null h) (ref_type null h) (ref_item names c.spaces.types bound reads null h r)

  pub test_reads : (null : Bool) (h : HeapType) → IsDeclaredHeap bound h → (reference_type c.spaces.types (ref_items_by names null h) >>= heap_with null) ≡ Some (Heap h)
  test_reads null h r = rw (ref_reads null h r, same_flag_refl null)

  -- A reference type is refused if the operator requires the other nullability.
  pub test_refuses : (null wanted : Bool) (h : HeapType) → IsDeclaredHeap bound h → not (same_flag null wanted) ≡ true →
      (reference_type c.spaces.types (ref_items_by names null h) >>= heap_with wanted) ≡ None
  test_refuses true true h r n = absurd cc
  test_refuses false false h r n = absurd cc
  test_refuses true false h r n = rw (ref_reads true h r)
  test_refuses false true h r n = rw (ref_reads false h r)

  two_reads : (r t : RefType) → IsDeclaredHeap bound r.heap → IsDeclaredHeap bound t.heap →
      all_items ref_named (ref_group c.spaces.types) (onto (ref_items names r) (ref_items names t)) ≡ Some (r ∷ (t ∷ []))
  two_reads r t h k =
      let last = ref_item names c.spaces.types bound reads t.nullable t.heap k in
      let second : all_items ref_named (ref_group c.spaces.types) (onto (ref_items names t) End) ≡ Some (t ∷ []) =
      all_items-reads ref_named (ref_group c.spaces.types) (ref_items names t) t End [] last refl in
      let first = ref_item names c.spaces.types bound reads r.nullable r.heap h in
      all_items-reads ref_named (ref_group c.spaces.types) (ref_items names r) r (ref_items names t) (t ∷ []) first (rw onto-End at second)

  pub cast_reads : (naming : LabelNaming) → AreLabelsApart naming → (inner xs : List Label) → Opened naming xs → (l : ℕ) (r t : RefType) → IsU32 l → IsDeclaredHeap bound r.heap →
      IsDeclaredHeap bound t.heap →
      cast_parts c (ids xs) (cast_items names inner xs l r t) ≡ Some (Cast l r t)
  cast_reads naming apart inner xs o l r t small h k =
      let alone : IsAlone (label_items inner xs l) (onto (ref_items names r) (ref_items names t)) = label_alone inner xs l (onto (ref_items names r) (ref_items names t)) in
      rw (alone.first, alone.others, label_reads naming apart inner xs o l small, two_reads r t h k)

-- ---- pieces write the items

module _ (names : Names) (named : AreNamed names) where
  pub select_writes : (ts : List ValType) → AllByRecursion IsRangedVal ts → Writes Bound (select_pieces names ts) Bound (select_items names ts)
  unfolding select_pieces class
  select_writes [] r = one_space_writes refl (line_group_writes (codes "result") (type_list names []) refl refl (type_list_writes names named [] r))
  select_writes (t ∷ []) r =
      let one : Writes Free (val_pieces names t) Bound (types_items names (t ∷ [])) =
      subst (λ f. Writes Free (val_pieces names t) Bound f) (sym (onto-End (val_items names t))) (val_writes names named t r.0) in
      one_space_writes refl (line_group_space_writes (codes "result") (val_pieces names t) refl refl one)
  select_writes (t ∷ u ∷ ts) r =
      one_space_writes refl (line_group_writes (codes "result") (type_list names (t ∷ (u ∷ ts))) refl refl (type_list_writes names named (t ∷ (u ∷ ts)) r))

  pub heap_type_writes : (h : HeapType) → IsRangedHeap h → Writes Bound (OneSpace ∷ heap_pieces names h) Bound (heap_items names h)
  heap_type_writes h r = one_space_writes refl (heap_writes names named h r)

  pub ref_type_writes : (null : Bool) (h : HeapType) → IsRangedHeap h → Writes Bound (OneSpace ∷ ref_pieces names (ref_type null h)) Bound (ref_items_by names null h)
  ref_type_writes null h r = one_space_writes refl (ref_writes names named (ref_type null h) r)

  pub cast_writes : (inner xs : List Label) (l : ℕ) (r t : RefType) → AllByRecursion IsNamedIfAny xs → IsU32 l → IsRangedHeap r.heap → IsRangedHeap t.heap →
      Writes Bound (label_pieces inner xs l ++ (OneSpace ∷ (ref_pieces names r ++ (OneSpace ∷ ref_pieces names t)))) Bound (cast_items names inner xs l r t)
  cast_writes inner xs l r t ls small h k =
      then (label_writes inner xs l ls small) (one_space_writes refl (then (ref_writes names named r h) (one_space_writes refl (ref_writes names named t k))))
