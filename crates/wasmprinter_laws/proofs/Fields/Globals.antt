-- Globals among the fields of a module
use Rattle.std.proofs.Common.{◌≡◌, inl, inr, ℕ, ◌<◌, ◌^◌, Bool, true, false, [], Some, None, refl, codes}
use Rattle.wasmprinter_spec.specs.Character.{class}
use Rattle.wasmprinter_spec.specs.Grammar.{Placed}
use Rattle.wasmprinter_spec.specs.Forest.{Forest, End, Word, Group, onto}
use Rattle.wasmprinter_spec.specs.Types.{ValType, GlobalType, global_type_of, signature_at}
use Rattle.wasmprinter_spec.specs.Row as row
use Rattle.wasmprinter_spec.specs.Names.{Names, AreNamed}
use Rattle.wasmprinter_spec.specs.Operator.{Operator}
use Rattle.wasmprinter_spec.specs.Placed.{Global}
use Rattle.wasmprinter_spec.specs.Module.{global_without_places}
use Rattle.wasmprinter_spec.specs.Indexed.{Counts, IsDeclaredVal}
use Rattle.wasmprinter_spec.specs.IndexSpaces.{Context}
use Rattle.wasmprinter_spec.specs.Layout.ValTypes.{val_pieces}
use Rattle.wasmprinter_spec.specs.Layout.Declarations.{Scope}
use Rattle.wasmprinter_spec.specs.Layout.Globals.{mutable_pieces, global_type_pieces, global_pieces}
use Rattle.wasmprinter_spec.specs.Text.Items.{identifier_in_front}
use Rattle.wasmprinter_spec.specs.Text.Types.{val_named, val_group, val_type}
use Rattle.wasmprinter_spec.specs.Text.Globals.{global_named, global_group, global_type, read_global}
use Rattle.wasmprinter_laws.proofs.Tokens.Pieces.{Free, Bound}
use Rattle.wasmprinter_laws.proofs.Tokens.Writes.{Writes, both_write, nothing_writes, one_space_writes, break_writes, group_space_writes, type_group_then}
use Rattle.wasmprinter_laws.specs.Listed.{AreSignaturesInRange}
use Rattle.wasmprinter_laws.proofs.Items.{ReadsItem, one_item-reads, leading_item-reads}
use Rattle.wasmprinter_laws.proofs.Ranged.{IsRangedGlobal}
use Rattle.wasmprinter_laws.proofs.Types.Ranged.{IsRangedVal}
use Rattle.wasmprinter_laws.proofs.Types.Trees.{val_items, val_writes}
use Rattle.wasmprinter_laws.proofs.Types.Back.{identifier_in_front-val, IsValItem, val_is_item, val_item}
use Rattle.wasmprinter_laws.proofs.Declarations.{id}
use Rattle.wasmprinter_laws.proofs.Identifiers.{declaration-items, declaration_writes}
use Rattle.wasmprinter_laws.proofs.Folded.Lists.{IsUncolored}
use Rattle.wasmprinter_laws.proofs.Fields.Scopes.{own_id, AreScoped, type_bound, type_indices-read, val_bounded}
use Rattle.wasmprinter_laws.proofs.Fields.Expressions.{constant_items, in_line_writes, AreIndexed, expression-items}

-- ---- the items of globals

abbrev pub mutable_items : Names → Bool → ValType → Forest
mutable_items names true t = Group (Word (codes "mut") (val_items names t)) End
mutable_items names false t = val_items names t

abbrev pub global_type_items : Names → GlobalType → Forest
global_type_items names t = mutable_items names t.mutable t.type

-- The items of a global after its word
abbrev pub global_items : Scope → ℕ → Global (Placed Operator) → Forest
global_items s i g = onto (own_id s row.Global i) (onto (global_type_items s.names g.type) (constant_items s 2 g.init))

-- ---- pieces write the items

module _ (names : Names) (named : AreNamed names) where
  mutable_writes : (mut : Bool) (t : ValType) → IsRangedVal t → Writes Free (mutable_pieces names mut t) Bound (mutable_items names mut t)
  unfolding class
  mutable_writes true t h = type_group_then {ps = val_pieces names t} {qs = []} refl refl (val_writes names named t h) nothing_writes
  mutable_writes false t h = val_writes names named t h

  pub global_type_writes : (t : GlobalType) → IsRangedVal t.type → Writes Free (global_type_pieces names t) Bound (global_type_items names t)
  unfolding global_type_pieces
  global_type_writes t h = mutable_writes t.mutable t.type h

pub global_writes : (s : Scope) → AreNamed s.names → AreSignaturesInRange (signature_at s.types) → IsUncolored s.folding → (i : ℕ) (g : Placed (Global (Placed Operator))) → i < 2 ^ 64 →
    IsRangedGlobal g.value →
    Writes Bound (global_pieces s i g) Bound (Group (Word (codes "global") (global_items s i g.value)) End)
unfolding global_pieces class
global_writes s named ranged bare i g small h =
    break_writes (group_space_writes 1 (codes "global") _ refl refl
    (both_write (declaration_writes (s.names.items row.Global i) i (named.items row.Global i) small)
    (one_space_writes {a = Bound} refl (both_write (global_type_writes s.names named g.value.type h.type)
    (one_space_writes {a = Bound} refl (in_line_writes s named ranged bare 2 g.value.init h.init))))))

-- ---- the items read back

-- The type does not start with an identifier.
identifier_in_front-mutable : (names : Names) (mut : Bool) (t : ValType) (f : Forest) → identifier_in_front (onto (mutable_items names mut t) f) ≡ (None, onto (mutable_items names mut t) f)
identifier_in_front-mutable names true t f = refl
identifier_in_front-mutable names false t f = identifier_in_front-val names t f

pub identifier_in_front-global_type : (names : Names) (t : GlobalType) (f : Forest) →
    identifier_in_front (onto (global_type_items names t) f) ≡ (None, onto (global_type_items names t) f)
identifier_in_front-global_type names t f = identifier_in_front-mutable names t.mutable t.type f

-- The identifier of a global is read, and the items after it are left.
pub identifier_in_front-global : (s : Scope) (i : ℕ) (g : Global (Placed Operator)) →
    identifier_in_front (global_items s i g) ≡ (id (s.names.items row.Global i), onto (global_type_items s.names g.type) (constant_items s 2 g.init))
identifier_in_front-global s i g =
    declaration-items (s.names.items row.Global i) (onto (global_type_items s.names g.type) (constant_items s 2 g.init))
    (identifier_in_front-global_type s.names g.type (constant_items s 2 g.init))

module _ (s : Scope) (c : Context) (n : Counts) (scoped : AreScoped s c n) where
  as_global : (f : Forest) (t : ValType) → IsValItem s.names c.spaces.types (type_bound s c n scoped) (type_indices-read s c n scoped) f t →
      ReadsItem global_named (global_group c) f (global_type_of false t)
  as_global f t (inl w) = inl (record { name = w.name; is = w.is; reads = rw w.reads })
  as_global f t (inr g) = inr (record { held = Word (codes "ref") g.held; is = g.is; reads = rw g.reads })

  mutable_item : (mut : Bool) (t : ValType) → IsDeclaredVal (type_bound s c n scoped) t →
      ReadsItem global_named (global_group c) (mutable_items s.names mut t) (global_type_of mut t)
  mutable_item true t h =
      let e : val_type c.spaces.types (val_items s.names t) ≡ Some t =
      one_item-reads val_named (val_group c.spaces.types) (val_items s.names t) t
      (val_item s.names c.spaces.types (type_bound s c n scoped) (type_indices-read s c n scoped) t h) in
      inr (record { held = Word (codes "mut") (val_items s.names t); is = refl; reads = rw e })
  mutable_item false t h = as_global (val_items s.names t) t (val_is_item s.names c.spaces.types (type_bound s c n scoped) (type_indices-read s c n scoped) t h)

  pub global_type-items : (t : GlobalType) (f : Forest) → IsRangedVal t.type → IsDeclaredVal n.types t.type →
      global_type c (onto (global_type_items s.names t) f) ≡ Some (t, f)
  global_type-items t f h d =
      leading_item-reads global_named (global_group c) (global_type_items s.names t) t f (mutable_item t.mutable t.type (val_bounded s c n scoped t.type h d))

  pub read_global-items : (i : ℕ) (g : Global (Placed Operator)) → IsRangedGlobal g → IsDeclaredVal n.types g.type.type → AreIndexed s n g.init →
      read_global c (global_items s i g) ≡ Some (global_without_places g)
  read_global-items i g h d e =
      let rest : Forest = constant_items s 2 g.init in
      rw (identifier_in_front-global s i g, global_type-items g.type rest h.type d, expression-items s c n scoped 2 g.init h.init e)
