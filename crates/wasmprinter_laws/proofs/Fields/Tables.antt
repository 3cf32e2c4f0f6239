-- Tables among the fields of a module
use Rattle.std.proofs.Common.{◌≡◌, ℕ, ◌<◌, ◌^◌, Bool, true, false, List, [], ◌∷◌, Option, Some, None, option_map, refl, ap, ◌∙◌, codes}
use Rattle.wasmprinter_spec.specs.Character.{class}
use Rattle.wasmprinter_spec.specs.Grammar.{Placed}
use Rattle.wasmprinter_spec.specs.Forest.{Forest, End, Word, Group, onto}
use Rattle.wasmprinter_spec.specs.Numeral.{natural, numeral}
use Rattle.wasmprinter_spec.specs.Types.{HeapType, Index, TableType, signature_at}
use Rattle.wasmprinter_spec.specs.Row as row
use Rattle.wasmprinter_spec.specs.Names.{Names, AreNamed}
use Rattle.wasmprinter_spec.specs.Operator.{Operator}
use Rattle.wasmprinter_spec.specs.Placed.{Table}
use Rattle.wasmprinter_spec.specs.Module.{without_places, table_without_places}
use Rattle.wasmprinter_spec.specs.Indexed.{Counts, IsDeclaredHeap}
use Rattle.wasmprinter_spec.specs.Limits.{HasNoEmptyInit}
use Rattle.wasmprinter_spec.specs.IndexSpaces.{Context}
use Rattle.wasmprinter_spec.specs.Layout.Declarations.{Scope}
use Rattle.wasmprinter_spec.specs.Layout.Tables.{table_type_pieces, init_pieces, table_pieces}
use Rattle.wasmprinter_spec.specs.Text.Items.{identifier_in_front}
use Rattle.wasmprinter_spec.specs.Text.Types.{ref_named, ref_group}
use Rattle.wasmprinter_spec.specs.Text.Expressions.{expression}
use Rattle.wasmprinter_spec.specs.Text.Tables.{table_type, init, read_table}
use Rattle.wasmprinter_laws.proofs.Tokens.Grown.{onto_assoc}
use Rattle.wasmprinter_laws.proofs.Tokens.Pieces.{Free, Bound}
use Rattle.wasmprinter_laws.proofs.Tokens.Writes.{Writes, both_write, nothing_writes, one_space_writes, break_writes, group_space_writes}
use Rattle.wasmprinter_laws.specs.Listed.{AreSignaturesInRange}
use Rattle.wasmprinter_laws.proofs.Items.{leading_item-reads}
use Rattle.wasmprinter_laws.proofs.Ranged.{IsRangedTableType, IsRangedInit, IsRangedTable}
use Rattle.wasmprinter_laws.proofs.Types.Trees.{ref_items_by, ref_items, ref_writes}
use Rattle.wasmprinter_laws.proofs.Types.Back.{ref_item}
use Rattle.wasmprinter_laws.proofs.Fields.Limits.{wide_items, limits_items, wide_writes, limits_write, IsNoNumber, address_type-items, limits-items, identifier_in_front-limits}
use Rattle.wasmprinter_laws.proofs.Declarations.{id}
use Rattle.wasmprinter_laws.proofs.Identifiers.{declaration-items, declaration_writes}
use Rattle.wasmprinter_laws.proofs.Folded.Lists.{IsUncolored}
use Rattle.wasmprinter_laws.proofs.Fields.Scopes.{own_id, AreScoped, type_bound, type_indices-read, heap_bounded}
use Rattle.wasmprinter_laws.proofs.Fields.Expressions.{constant_items, in_line_writes, AreIndexed, expression-items}

-- ---- the items of tables

abbrev pub table_type_items : Names → TableType → Forest
table_type_items names t = onto (wide_items t.wide) (onto (limits_items t.limits) (ref_items names t.element))

abbrev pub init_items : Scope → Option (List (Placed Operator)) → Forest
init_items s None = End
init_items s (Some os) = constant_items s 2 os

-- The items of a table after its word
abbrev pub table_items : Scope → ℕ → Table (Placed Operator) → Forest
table_items s i t = onto (own_id s row.Table i) (onto (table_type_items s.names t.type) (init_items s t.init))

-- ---- pieces write the items

pub table_type_writes : (names : Names) → AreNamed names → (t : TableType) → IsRangedTableType t → Writes Free (table_type_pieces names t) Bound (table_type_items names t)
unfolding table_type_pieces
table_type_writes names named t h =
    both_write (wide_writes t.wide) (both_write (limits_write t.limits h.min h.max) (one_space_writes refl (ref_writes names named t.element h.element)))

module _ (s : Scope) (named : AreNamed s.names) (ranged : AreSignaturesInRange (signature_at s.types)) (bare : IsUncolored s.folding) where
  init_writes : (i : Option (List (Placed Operator))) → IsRangedInit i → Writes Bound (init_pieces s i) Bound (init_items s i)
  unfolding init_pieces
  init_writes None h = nothing_writes
  init_writes (Some os) h = one_space_writes refl (in_line_writes s named ranged bare 2 os h)

  pub table_writes : (i : ℕ) (t : Placed (Table (Placed Operator))) → i < 2 ^ 64 → IsRangedTable t.value →
      Writes Bound (table_pieces s i t) Bound (Group (Word (codes "table") (table_items s i t.value)) End)
  unfolding table_pieces class
  table_writes i t small h =
      break_writes (group_space_writes 1 (codes "table") _ refl refl
      (both_write (declaration_writes (s.names.items row.Table i) i (named.items row.Table i) small)
      (one_space_writes {a = Bound} refl (both_write (table_type_writes s.names named t.value.type h.type) (init_writes t.value.init h.init)))))

-- ---- the items read back

-- A reference type does not start with a number.
no_number-ref : (names : Names) (null : Bool) (h : HeapType) (f : Forest) → IsNoNumber (onto (ref_items_by names null h) f)
unfolding natural numeral
no_number-ref names true (Index n) f min = refl
no_number-ref names true _ f min = refl
no_number-ref names false h f min = refl

table_type_onto : (names : Names) (t : TableType) (f : Forest) →
    onto (table_type_items names t) f ≡ onto (wide_items t.wide) (onto (limits_items t.limits) (onto (ref_items names t.element) f))
table_type_onto names t f =
    onto_assoc (wide_items t.wide) (onto (limits_items t.limits) (ref_items names t.element)) f
    ∙ ap (onto (wide_items t.wide)) (onto_assoc (limits_items t.limits) (ref_items names t.element) f)

-- The type does not start with an identifier.
pub identifier_in_front-table_type : (names : Names) (t : TableType) (f : Forest) → identifier_in_front (onto (table_type_items names t) f) ≡ (None, onto (table_type_items names t) f)
identifier_in_front-table_type names t f = rw (table_type_onto names t f) (identifier_in_front-limits t.wide t.limits (onto (ref_items names t.element) f))

-- The identifier of a table is read, and the items after it are left.
pub identifier_in_front-table : (s : Scope) (i : ℕ) (t : Table (Placed Operator)) →
    identifier_in_front (table_items s i t) ≡ (id (s.names.items row.Table i), onto (table_type_items s.names t.type) (init_items s t.init))
identifier_in_front-table s i t =
    declaration-items (s.names.items row.Table i) (onto (table_type_items s.names t.type) (init_items s t.init)) (identifier_in_front-table_type s.names t.type (init_items s t.init))

module _ (s : Scope) (c : Context) (n : Counts) (scoped : AreScoped s c n) where
  pub table_type-items : (t : TableType) (f : Forest) → IsRangedTableType t → IsDeclaredHeap n.types t.element.heap →
      table_type c (onto (table_type_items s.names t) f) ≡ Some (t, f)
  table_type-items t f h d =
      let after : Forest = onto (ref_items s.names t.element) f in
      let bounded = heap_bounded s c n scoped t.element.heap h.element d in
      rw (
        table_type_onto s.names t f,
        address_type-items t.wide t.limits after h.min,
        limits-items t.limits after h.min h.max (no_number-ref s.names t.element.nullable t.element.heap f),
        leading_item-reads ref_named (ref_group c.spaces.types) (ref_items s.names t.element) t.element f
            (ref_item s.names c.spaces.types (type_bound s c n scoped) (type_indices-read s c n scoped) t.element.nullable t.element.heap bounded),
      )

  abbrev pub IsIndexedInit : Option (List (Placed Operator)) → Type 0
  IsIndexedInit None = Unit {0}
  IsIndexedInit (Some os) = AreIndexed s n os

  -- Items that read as at least one operator read as an initialiser.
  something_reads : (f : Forest) (o : Operator) (os : List Operator) → expression c f ≡ Some (o ∷ os) → init c f ≡ Some (Some (o ∷ os))
  something_reads End o os e = absurd cc
  something_reads _ o os e = ap (option_map Some) e

  init-items : (i : Option (List (Placed Operator))) → IsRangedInit i → HasNoEmptyInit i → IsIndexedInit i →
      init c (init_items s i) ≡ Some (option_map without_places i)
  init-items None h some d = refl
  init-items (Some []) h some d = absurd some
  init-items (Some (o ∷ os)) h some d = something_reads (constant_items s 2 (o ∷ os)) o.value (without_places os) (expression-items s c n scoped 2 (o ∷ os) h d)

  pub read_table-items : (i : ℕ) (t : Table (Placed Operator)) → IsRangedTable t → HasNoEmptyInit t.init → IsDeclaredHeap n.types t.type.element.heap →
      IsIndexedInit t.init → read_table c (table_items s i t) ≡ Some (table_without_places t)
  read_table-items i t h some d e =
      let rest : Forest = init_items s t.init in
      rw (identifier_in_front-table s i t, table_type-items t.type rest h.type d, init-items t.init h.init some e)
