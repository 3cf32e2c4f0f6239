-- The catch clauses of `try_table`
use Rattle.std.proofs.Common.{◌≡◌, ℕ, ◌<◌, List, [], ◌∷◌, ◌++◌, Option, Some, None, refl, codes}
use Rattle.std.specs.List.{AllByRecursion}
use Rattle.wasmprinter_spec.specs.Character.{class}
use Rattle.wasmprinter_spec.specs.Forest.{Forest, End, Word, Group, onto}
use Rattle.wasmprinter_spec.specs.Row as row
use Rattle.wasmprinter_spec.specs.Operator.{Catch, One, OneRef, All, AllRef, Empty}
use Rattle.wasmprinter_spec.specs.Labels.{Label, Named}
use Rattle.wasmprinter_spec.specs.Names.{IsNamedIfAny, AreNamed, AreApart, in_function}
use Rattle.wasmprinter_spec.specs.Indexed.{Counts, IsCatch}
use Rattle.wasmprinter_spec.specs.Code.{head}
use Rattle.wasmprinter_spec.specs.IndexSpaces.{Identifiers, Context}
use Rattle.wasmprinter_spec.specs.Text.Items.{groups}
use Rattle.wasmprinter_spec.specs.Text.Types.{val_types, variables}
use Rattle.wasmprinter_spec.specs.Text.Operators.{id_of, after_id, block_type, label, first_alone, after_first, tag_clause, clauses}
use Rattle.wasmprinter_spec.specs.Piece.{OneSpace}
use Rattle.wasmprinter_spec.specs.Layout.Operators.{Setting, named_index, label_pieces, catch_pieces, catches_pieces}
use Rattle.wasmprinter_laws.proofs.Tokens.Pieces.{Free, Bound}
use Rattle.wasmprinter_laws.proofs.Tokens.Writes.{Writes, both_write, nothing_writes, one_space_writes, line_group_writes}
use Rattle.wasmprinter_laws.specs.Listed.{IsU32, IsCatchInRange}
use Rattle.wasmprinter_laws.specs.OperatorLaws.{HaveSameNames}
use Rattle.wasmprinter_laws.proofs.Identifiers.{index_items}
use Rattle.wasmprinter_laws.proofs.Operators.Labels.{ids, Opened, label_items, label_reads, label_writes}
use Rattle.wasmprinter_laws.proofs.Operators.Arguments.{AreArguments}
use Rattle.wasmprinter_laws.proofs.Operators.Spaces.{space_items, item_reads, item_writes}
use Rattle.wasmprinter_laws.proofs.Operators.Blocks.{IsAfterBlock}

-- ---- the items

abbrev pub catch_items : Setting → List Label → List Label → Catch → Forest
catch_items s inner xs (One t l) = Word (codes "catch") (onto (space_items s row.Tag t) (label_items inner xs l))
catch_items s inner xs (OneRef t l) = Word (codes "catch_ref") (onto (space_items s row.Tag t) (label_items inner xs l))
catch_items s inner xs (All l) = Word (codes "catch_all") (label_items inner xs l)
catch_items s inner xs (AllRef l) = Word (codes "catch_all_ref") (label_items inner xs l)

abbrev pub catches_items : Setting → List Label → List Label → List Catch → Forest
catches_items s inner xs [] = End
catches_items s inner xs (c ∷ cs) = Group (catch_items s inner xs c) (catches_items s inner xs cs)

pub catches_arguments : (s : Setting) (inner xs : List Label) (cs : List Catch) → AreArguments (catches_items s inner xs cs)
unfolding head
catches_arguments s inner xs [] = tt
catches_arguments s inner xs (One t l ∷ cs) = (refl, catches_arguments s inner xs cs)
catches_arguments s inner xs (OneRef t l ∷ cs) = (refl, catches_arguments s inner xs cs)
catches_arguments s inner xs (All l ∷ cs) = (refl, catches_arguments s inner xs cs)
catches_arguments s inner xs (AllRef l ∷ cs) = (refl, catches_arguments s inner xs cs)

-- ---- the items read back

-- Catch clauses do not start with a block type.
catches_no_type : (s : Setting) (c : Context) (inner xs : List Label) (cs : List Catch) → block_type c (catches_items s inner xs cs) ≡ Some (Empty, catches_items s inner xs cs)
catches_no_type s c inner xs [] = refl
catches_no_type s c inner xs (One t l ∷ cs) = refl
catches_no_type s c inner xs (OneRef t l ∷ cs) = refl
catches_no_type s c inner xs (All l ∷ cs) = refl
catches_no_type s c inner xs (AllRef l ∷ cs) = refl

catches_no_params : (s : Setting) (types : Identifiers) (inner xs : List Label) (cs : List Catch) →
    groups (variables types) (codes "param") (catches_items s inner xs cs) ≡ Some ([], catches_items s inner xs cs)
unfolding groups
catches_no_params s types inner xs [] = refl
catches_no_params s types inner xs (One t l ∷ cs) = refl
catches_no_params s types inner xs (OneRef t l ∷ cs) = refl
catches_no_params s types inner xs (All l ∷ cs) = refl
catches_no_params s types inner xs (AllRef l ∷ cs) = refl

catches_no_results : (s : Setting) (types : Identifiers) (inner xs : List Label) (cs : List Catch) →
    groups (val_types types) (codes "result") (catches_items s inner xs cs) ≡ Some ([], catches_items s inner xs cs)
unfolding groups
catches_no_results s types inner xs [] = refl
catches_no_results s types inner xs (One t l ∷ cs) = refl
catches_no_results s types inner xs (OneRef t l ∷ cs) = refl
catches_no_results s types inner xs (All l ∷ cs) = refl
catches_no_results s types inner xs (AllRef l ∷ cs) = refl

catches_no_id : (s : Setting) (inner xs : List Label) (cs : List Catch) → id_of (catches_items s inner xs cs) ≡ None
catches_no_id s inner xs [] = refl
catches_no_id s inner xs (c ∷ cs) = refl

catches_after_id : (s : Setting) (inner xs : List Label) (cs : List Catch) → after_id (catches_items s inner xs cs) ≡ catches_items s inner xs cs
catches_after_id s inner xs [] = refl
catches_after_id s inner xs (c ∷ cs) = refl

pub catches_after_block : (s : Setting) (c : Context) (inner xs : List Label) (cs : List Catch) → IsAfterBlock c (catches_items s inner xs cs)
catches_after_block s c inner xs cs = record {
  no_id = catches_no_id s inner xs cs;
  all_after_id = catches_after_id s inner xs cs;
  no_type = catches_no_type s c inner xs cs;
  no_signature = record { params = catches_no_params s c.spaces.types inner xs cs; results = catches_no_results s c.spaces.types inner xs cs };
}

-- The first index of a catch clause with a tag is that of the tag.
tag_alone : (o : Option Named) (t : ℕ) (f : Forest) → first_alone (onto (index_items o t) f) ≡ index_items o t
tag_alone None t f = refl
tag_alone (Some n) t f = refl

after_tag : (o : Option Named) (t : ℕ) (f : Forest) → after_first (onto (index_items o t) f) ≡ f
after_tag None t f = refl
after_tag (Some n) t f = refl

module _ (s : Setting) (c : Context) (k : Counts) (same : HaveSameNames s c k) (apart : AreApart s.names)
    (inner xs : List Label) (o : Opened (s.names.labels s.function) xs) where
  one_label : (l : ℕ) → IsU32 l → label (ids xs) (label_items inner xs l) ≡ Some l
  one_label l h = label_reads (s.names.labels s.function) (apart.labels s.function) inner xs o l h

  tag_reads : (make : ℕ → ℕ → Catch) (t l : ℕ) → IsU32 t → IsU32 l → t < k.tags → tag_clause make c (ids xs) (onto (space_items s row.Tag t) (label_items inner xs l)) ≡ Some (make t l)
  tag_reads make t l h i d =
      let named : Option Named = in_function s.names s.function row.Tag t in
      rw (
        tag_alone named t (label_items inner xs l),
        after_tag named t (label_items inner xs l),
        item_reads s c k same apart row.Tag t refl h d,
        one_label l i,
      )

  pub catches_read : (cs : List Catch) → AllByRecursion IsCatchInRange cs → AllByRecursion (IsCatch k) cs → clauses c (ids xs) (catches_items s inner xs cs) ≡ Some cs
  catches_read [] h d = refl
  catches_read (One t l ∷ cs) ((tag, label), others) d = rw (tag_reads One t l tag label d.0, catches_read cs others d.1)
  catches_read (OneRef t l ∷ cs) ((tag, label), others) d = rw (tag_reads OneRef t l tag label d.0, catches_read cs others d.1)
  catches_read (All l ∷ cs) h d = rw (one_label l h.0, catches_read cs h.1 d.1)
  catches_read (AllRef l ∷ cs) h d = rw (one_label l h.0, catches_read cs h.1 d.1)

-- ---- pieces write the items

module _ (s : Setting) (named : AreNamed s.names) (inner xs : List Label) (labelled : AllByRecursion IsNamedIfAny xs) where
  tag_writes : (t l : ℕ) → IsU32 t → IsU32 l →
      Writes Bound (OneSpace ∷ (named_index s row.Tag t ++ label_pieces inner xs l)) Bound (onto (space_items s row.Tag t) (label_items inner xs l))
  tag_writes t l small k = one_space_writes refl (both_write (item_writes s named row.Tag t small) (label_writes inner xs l labelled k))

  catch_writes : (c : Catch) → IsCatchInRange c → Writes Free (catch_pieces s inner xs c) Bound (Group (catch_items s inner xs c) End)
  unfolding catch_pieces class
  catch_writes (One t l) k = line_group_writes (codes "catch") _ refl refl (tag_writes t l k.0 k.1)
  catch_writes (OneRef t l) k = line_group_writes (codes "catch_ref") _ refl refl (tag_writes t l k.0 k.1)
  catch_writes (All l) k = line_group_writes (codes "catch_all") _ refl refl (label_writes inner xs l labelled k)
  catch_writes (AllRef l) k = line_group_writes (codes "catch_all_ref") _ refl refl (label_writes inner xs l labelled k)

  pub catches_write : (cs : List Catch) → AllByRecursion IsCatchInRange cs → Writes Bound (catches_pieces s inner xs cs) Bound (catches_items s inner xs cs)
  unfolding catches_pieces
  catches_write [] ks = nothing_writes
  catches_write (c ∷ cs) ks = one_space_writes refl (both_write (catch_writes c ks.0) (catches_write cs ks.1))
