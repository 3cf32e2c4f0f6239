-- Imports among the fields of a module
use Rattle.std.proofs.Common.{◌≡◌, ℕ, suc, ◌+◌, ◌<◌, ◌≤◌, ◌^◌, true, List, [], ◌∷◌, length, Some, None, option_map, refl, ap, codes, chars, arith, encode_utf8_all}
use Rattle.std.specs.List.{AllByRecursion}
use Rattle.std.proofs.Math.Utf8.{scalars}
use Rattle.std.proofs.lemmas.Str.{encodes-chars, scalars-chars, is_utf8-from_IsUtf8}
use Rattle.wasmprinter_spec.specs.Character.{class}
use Rattle.wasmprinter_spec.specs.Grammar.{Placed}
use Rattle.wasmprinter_spec.specs.Forest.{Forest, End, Word, String, Group, onto}
use Rattle.wasmprinter_spec.specs.Types.{FuncType, signature_at, ExternType, FuncExtern, TableExtern, MemoryExtern, GlobalExtern, TagExtern}
use Rattle.wasmprinter_spec.specs.Row as row
use Rattle.wasmprinter_spec.specs.Row.{Func, Tag}
use Rattle.wasmprinter_spec.specs.Names.{AreNamed}
use Rattle.wasmprinter_spec.specs.Placed.{Import}
use Rattle.wasmprinter_spec.specs.IndexSpaces.{Context}
use Rattle.wasmprinter_spec.specs.Indexed.{Counts, IsDeclaredHeap, IsDeclaredVal, space_of}
use Rattle.wasmprinter_spec.specs.Layout.Declarations.{Scope}
use Rattle.wasmprinter_spec.specs.Layout.Imports.{Numbers, number_of, numbers_after, extern_pieces, import_pieces, imports_pieces}
use Rattle.wasmprinter_spec.specs.Text.Items.{identifier_in_front}
use Rattle.wasmprinter_spec.specs.Text.Exports.{kind_of_word}
use Rattle.wasmprinter_spec.specs.Text.Tables.{table_type}
use Rattle.wasmprinter_spec.specs.Text.Globals.{global_type}
use Rattle.wasmprinter_spec.specs.Text.Imports.{field_of, import_field, extern_type, read_import}
use Rattle.wasmprinter_laws.proofs.Tokens.Grown.{onto-End}
use Rattle.wasmprinter_laws.proofs.Tokens.Pieces.{Edge, Bound}
use Rattle.wasmprinter_laws.proofs.Tokens.Writes.{Writes, is_open, both_write, nothing_writes, one_space_writes, break_writes, quoted_writes, line_group_space_writes}
use Rattle.wasmprinter_laws.specs.Listed.{AreSignaturesInRange}
use Rattle.wasmprinter_laws.proofs.Declarations.{id}
use Rattle.wasmprinter_laws.proofs.Identifiers.{declaration-items, declaration_writes}
use Rattle.wasmprinter_laws.proofs.Spaces.{kind_of_extern}
use Rattle.wasmprinter_laws.proofs.Ranged.{IsRangedExtern, IsRangedImport}
use Rattle.wasmprinter_laws.proofs.Fields.Scopes.{own_id, AreScoped}
use Rattle.wasmprinter_laws.proofs.Fields.Headers.{use_items, header_items, header_alone_writes, identifier_in_front-header, use-items}
use Rattle.wasmprinter_laws.proofs.Fields.Tables.{table_type_items, table_type_writes, table_type-items, identifier_in_front-table_type}
use Rattle.wasmprinter_laws.proofs.Fields.Memories.{memory_type_items, memory_type_writes, memory_type-items, identifier_in_front-memory_type}
use Rattle.wasmprinter_laws.proofs.Fields.Globals.{global_type_items, global_type_writes, global_type-items, identifier_in_front-global_type}

-- ---- the items of imports

abbrev pub extern_word : ExternType → List ℕ
extern_word (FuncExtern i) = codes "func"
extern_word (TableExtern t) = codes "table"
extern_word (MemoryExtern t) = codes "memory"
extern_word (GlobalExtern t) = codes "global"
extern_word (TagExtern i) = codes "tag"

-- The imported item with its number
abbrev pub extern_items : Scope → ℕ → ExternType → Forest
extern_items s n (FuncExtern i) = header_items s Func (Some n) n i End
extern_items s n (TableExtern t) = onto (own_id s row.Table n) (table_type_items s.names t)
extern_items s n (MemoryExtern t) = onto (own_id s row.Memory n) (memory_type_items t)
extern_items s n (GlobalExtern t) = onto (own_id s row.Global n) (global_type_items s.names t)
extern_items s n (TagExtern i) = header_items s Tag None n i End

-- The items of an import after its word
abbrev pub import_items : Scope → ℕ → Import → Forest
import_items s n i = String i.source (String i.name (Group (Word (extern_word i.type) (extern_items s n i.type)) End))

abbrev pub imports_items : Scope → Numbers → List (Placed Import) → Forest
imports_items s n [] = End
imports_items s n (i ∷ is) =
    Group (Word (codes "import") (import_items s (number_of i.value.type n) i.value)) (imports_items s (numbers_after i.value.type n) is)

-- ---- pieces write the items

-- With `more` items of a kind added, there are at most 2 ^ 64 of that kind.
pub record LeaveRoom (n : Numbers) (more : ℕ) : Type 0 where
  pub functions : n.functions + more ≤ 2 ^ 64
  pub tables : n.tables + more ≤ 2 ^ 64
  pub memories : n.memories + more ≤ 2 ^ 64
  pub globals : n.globals + more ≤ 2 ^ 64
  pub tags : n.tags + more ≤ 2 ^ 64

-- The number of the next import is below 2 ^ 64.
number_small : (t : ExternType) (n : Numbers) (more : ℕ) → LeaveRoom n (suc more) → number_of t n < 2 ^ 64
number_small (FuncExtern i) n more h = omega (arith, h.functions)
number_small (TableExtern t) n more h = omega (arith, h.tables)
number_small (MemoryExtern t) n more h = omega (arith, h.memories)
number_small (GlobalExtern t) n more h = omega (arith, h.globals)
number_small (TagExtern i) n more h = omega (arith, h.tags)

-- An import takes one number of its kind.
room_after : (t : ExternType) (n : Numbers) (more : ℕ) → LeaveRoom n (suc more) → LeaveRoom (numbers_after t n) more
room_after t n more h =
    by t (omega (arith, h.functions)) (omega (arith, h.tables)) (omega (arith, h.memories)) (omega (arith, h.globals)) (omega (arith, h.tags))
  where
    by : (t : ExternType) → n.functions + 1 + more ≤ 2 ^ 64 → n.tables + 1 + more ≤ 2 ^ 64 → n.memories + 1 + more ≤ 2 ^ 64 → n.globals + 1 + more ≤ 2 ^ 64 →
        n.tags + 1 + more ≤ 2 ^ 64 → LeaveRoom (numbers_after t n) more
    by (FuncExtern i) f t m g k = record { functions = f; tables = omega arith; memories = omega arith; globals = omega arith; tags = omega arith }
    by (TableExtern i) f t m g k = record { functions = omega arith; tables = t; memories = omega arith; globals = omega arith; tags = omega arith }
    by (MemoryExtern i) f t m g k = record { functions = omega arith; tables = omega arith; memories = m; globals = omega arith; tags = omega arith }
    by (GlobalExtern i) f t m g k = record { functions = omega arith; tables = omega arith; memories = omega arith; globals = g; tags = omega arith }
    by (TagExtern i) f t m g k = record { functions = omega arith; tables = omega arith; memories = omega arith; globals = omega arith; tags = k }

module _ (s : Scope) (named : AreNamed s.names) (ranged : AreSignaturesInRange (signature_at s.types)) where
  extern_writes : {a : Edge} (n : ℕ) (t : ExternType) → is_open a ≡ true → n < 2 ^ 64 → IsRangedExtern t →
      Writes a (extern_pieces s n t) Bound (Group (Word (extern_word t) (extern_items s n t)) End)
  unfolding extern_pieces class
  extern_writes n (FuncExtern i) e small h = line_group_space_writes (codes "func") _ e refl (header_alone_writes s named ranged Func (Some n) n i small h)
  extern_writes n (TableExtern t) e small h =
      line_group_space_writes (codes "table") _ e refl
      (both_write (declaration_writes (s.names.items row.Table n) n (named.items row.Table n) small)
      (one_space_writes {a = Bound} refl (table_type_writes s.names named t h)))
  extern_writes n (MemoryExtern t) e small h =
      line_group_space_writes (codes "memory") _ e refl
      (both_write (declaration_writes (s.names.items row.Memory n) n (named.items row.Memory n) small)
      (one_space_writes {a = Bound} refl (memory_type_writes t h)))
  extern_writes n (GlobalExtern t) e small h =
      line_group_space_writes (codes "global") _ e refl
      (both_write (declaration_writes (s.names.items row.Global n) n (named.items row.Global n) small)
      (one_space_writes {a = Bound} refl (global_type_writes s.names named t h)))
  extern_writes n (TagExtern i) e small h = line_group_space_writes (codes "tag") _ e refl (header_alone_writes s named ranged Tag None n i small h)

  import_writes : (n : ℕ) (i : Placed Import) → n < 2 ^ 64 → IsRangedImport i.value →
      Writes Bound (import_pieces s n i) Bound (Group (Word (codes "import") (import_items s n i.value)) End)
  unfolding import_pieces class
  import_writes n i small h =
      let inner : Forest = Group (Word (extern_word i.value.type) (extern_items s n i.value.type)) End in
      let source : scalars (chars i.value.source) ≡ true = scalars-chars i.value.source h.source in
      let name : scalars (chars i.value.name) ≡ true = scalars-chars i.value.name h.name in
      let written : Writes Bound (import_pieces s n i) Bound
      (Group (Word (codes "import") (String (encode_utf8_all (chars i.value.source)) (String (encode_utf8_all (chars i.value.name)) inner))) End) =
      break_writes (line_group_space_writes (codes "import") _ refl refl
      (quoted_writes source (one_space_writes refl (quoted_writes name (one_space_writes refl (extern_writes n i.value.type refl small h.type)))))) in
      rw (encodes-chars i.value.source h.source, encodes-chars i.value.name h.name) at written

  pub imports_write : (n : Numbers) (is : List (Placed Import)) → LeaveRoom n (length is) → AllByRecursion (λ i. IsRangedImport i.value) is →
      Writes Bound (imports_pieces s n is) Bound (imports_items s n is)
  unfolding imports_pieces
  imports_write n [] room h = nothing_writes
  imports_write n (i ∷ is) room h =
      both_write (import_writes (number_of i.value.type n) i (number_small i.value.type n (length is) room) h.0)
      (imports_write (numbers_after i.value.type n) is (room_after i.value.type n (length is) room) h.1)

-- ---- the items read back

kind_of_word-extern : (t : ExternType) → kind_of_word (extern_word t) ≡ Some (kind_of_extern t)
unfolding kind_of_word
kind_of_word-extern (FuncExtern i) = refl
kind_of_word-extern (TableExtern t) = refl
kind_of_word-extern (MemoryExtern t) = refl
kind_of_word-extern (GlobalExtern t) = refl
kind_of_word-extern (TagExtern i) = refl

pub import_field-items : (s : Scope) (n : ℕ) (i : Import) → IsRangedImport i →
    import_field (import_items s n i) ≡ Some (field_of i.source i.name (extern_items s n i.type) (kind_of_extern i.type))
import_field-items s n i h = rw (is_utf8-from_IsUtf8 i.source h.source, is_utf8-from_IsUtf8 i.name h.name, kind_of_word-extern i.type)

-- The items of an imported item after its identifier
abbrev pub after_id : Scope → ℕ → ExternType → Forest
after_id s n (FuncExtern i) = onto (use_items s (Some n) i) End
after_id s n (TableExtern t) = table_type_items s.names t
after_id s n (MemoryExtern t) = memory_type_items t
after_id s n (GlobalExtern t) = global_type_items s.names t
after_id s n (TagExtern i) = onto (use_items s None i) End

pub identifier_in_front-extern : (s : Scope) (n : ℕ) (t : ExternType) →
    identifier_in_front (extern_items s n t) ≡ (id (s.names.items (space_of (kind_of_extern t)) n), after_id s n t)
identifier_in_front-extern s n (FuncExtern i) = identifier_in_front-header s Func (Some n) n i End
identifier_in_front-extern s n (TableExtern t) =
    declaration-items (s.names.items row.Table n) (table_type_items s.names t) (rw onto-End at (identifier_in_front-table_type s.names t End))
identifier_in_front-extern s n (MemoryExtern t) = declaration-items (s.names.items row.Memory n) (memory_type_items t) (identifier_in_front-memory_type t)
identifier_in_front-extern s n (GlobalExtern t) =
    declaration-items (s.names.items row.Global n) (global_type_items s.names t) (rw onto-End at (identifier_in_front-global_type s.names t End))
identifier_in_front-extern s n (TagExtern i) = identifier_in_front-header s Tag None n i End

-- Every index in the type of an imported item is declared.
abbrev pub IsScopedExtern : Scope → Counts → ExternType → Type 0
IsScopedExtern s n (FuncExtern i) = (t : FuncType) × (signature_at s.types i ≡ Some t)
IsScopedExtern s n (TableExtern t) = IsDeclaredHeap n.types t.element.heap
IsScopedExtern s n (MemoryExtern t) = Unit {0}
IsScopedExtern s n (GlobalExtern t) = IsDeclaredVal n.types t.type
IsScopedExtern s n (TagExtern i) = (t : FuncType) × (signature_at s.types i ≡ Some t)

module _ (s : Scope) (c : Context) (n : Counts) (scoped : AreScoped s c n) where
  extern_type-items : (k : ℕ) (t : ExternType) → IsRangedExtern t → IsScopedExtern s n t → extern_type c (kind_of_extern t) (after_id s k t) ≡ Some t
  extern_type-items k (FuncExtern i) h d = ap (option_map FuncExtern) (use-items s c n scoped (Some k) d.0 i d.1 h)
  extern_type-items k (TableExtern t) h d =
      let e : table_type c (table_type_items s.names t) ≡ Some (t, End) = rw onto-End at (table_type-items s c n scoped t End h d) in
      rw e
  extern_type-items k (MemoryExtern t) h d = rw (memory_type-items t h)
  extern_type-items k (GlobalExtern t) h d =
      let e : global_type c (global_type_items s.names t) ≡ Some (t, End) = rw onto-End at (global_type-items s c n scoped t End h d) in
      rw e
  extern_type-items k (TagExtern i) h d = ap (option_map TagExtern) (use-items s c n scoped None d.0 i d.1 h)

  pub read_import-items : (k : ℕ) (i : Import) → IsRangedImport i → IsScopedExtern s n i.type →
      read_import c (field_of i.source i.name (extern_items s k i.type) (kind_of_extern i.type)) ≡ Some i
  read_import-items k i h d = rw (identifier_in_front-extern s k i.type, extern_type-items k i.type h.type d)
