-- Exports among the fields of a module
use Rattle.std.proofs.Common.{◌≡◌, ℕ, true, ◌<◌, ◌^◌, Some, refl, codes, decimal, chars, arith, encode_utf8_all}
use Rattle.std.proofs.Math.Utf8.{scalars}
use Rattle.std.proofs.lemmas.Str.{encodes-chars, scalars-chars, is_utf8-from_IsUtf8}
use Rattle.wasmprinter_spec.specs.Character.{class}
use Rattle.wasmprinter_spec.specs.Forest.{Forest, End, Word, String, Group}
use Rattle.wasmprinter_spec.specs.Grammar.{Placed}
use Rattle.wasmprinter_spec.specs.Types.{ExternKind, FuncKind, TableKind, MemoryKind, GlobalKind, TagKind}
use Rattle.wasmprinter_spec.specs.Placed.{Export}
use Rattle.wasmprinter_spec.specs.Indexed.{Counts, IsIndex, space_of}
use Rattle.wasmprinter_spec.specs.Row.{Func, Table, Memory, Global}
use Rattle.wasmprinter_spec.specs.Names.{AreNamed}
use Rattle.wasmprinter_spec.specs.Layout.Declarations.{Scope}
use Rattle.wasmprinter_spec.specs.Layout.Exports.{kind_word, extern_index_pieces, export_pieces}
use Rattle.wasmprinter_spec.specs.IndexSpaces.{space_in, index, Context}
use Rattle.wasmprinter_spec.specs.Text.Exports.{kind_of_word, read_export}
use Rattle.wasmprinter_laws.proofs.Tokens.Runs.{is_word}
use Rattle.wasmprinter_laws.proofs.Tokens.Numbers.{is_word-decimal}
use Rattle.wasmprinter_laws.proofs.Tokens.Pieces.{Free, Bound}
use Rattle.wasmprinter_laws.proofs.Tokens.Writes.{Writes, writing, one_space_writes, break_writes, quoted_writes, line_group_space_writes}
use Rattle.wasmprinter_laws.proofs.Ranged.{IsRangedExport}
use Rattle.wasmprinter_laws.specs.OperatorLaws.{count_in}
use Rattle.wasmprinter_laws.proofs.Items.{index-decimal}
use Rattle.wasmprinter_laws.proofs.Identifiers.{index_writes}
use Rattle.wasmprinter_laws.proofs.Fields.Scopes.{own_index, AreScoped, space_of-module, space_of-counted, own_index-reads}

-- Tags are printed by their numbers.
abbrev pub extern_index_items : Scope → ExternKind → ℕ → Forest
extern_index_items s TagKind n = Word (decimal n) End
extern_index_items s kind n = own_index s (space_of kind) n

-- The items of an export after its word
abbrev pub export_items : Scope → Export → Forest
export_items s e = String e.name (Group (Word (kind_word e.kind) (extern_index_items s e.kind e.index)) End)

is_word-kind : (kind : ExternKind) → is_word (kind_word kind) ≡ true
unfolding kind_word class
is_word-kind FuncKind = refl
is_word-kind TableKind = refl
is_word-kind MemoryKind = refl
is_word-kind GlobalKind = refl
is_word-kind TagKind = refl

extern_index_writes : (s : Scope) → AreNamed s.names → (kind : ExternKind) (n : ℕ) → n < 2 ^ 64 → is_word (decimal n) ≡ true →
    Writes Free (extern_index_pieces s kind n) Bound (extern_index_items s kind n)
unfolding extern_index_pieces
extern_index_writes s named TagKind n h k = search writing
extern_index_writes s named FuncKind n h k = index_writes (s.names.items Func n) n (named.items Func n) h
extern_index_writes s named TableKind n h k = index_writes (s.names.items Table n) n (named.items Table n) h
extern_index_writes s named MemoryKind n h k = index_writes (s.names.items Memory n) n (named.items Memory n) h
extern_index_writes s named GlobalKind n h k = index_writes (s.names.items Global n) n (named.items Global n) h

pub export_writes : (s : Scope) → AreNamed s.names → (e : Placed Export) → IsRangedExport e.value →
    Writes Bound (export_pieces s e) Bound (Group (Word (codes "export") (export_items s e.value)) End)
unfolding export_pieces class
export_writes s named e h =
    let small : e.value.index < 2 ^ 64 = omega (arith, h.index) in
    let scalar : scalars (chars e.value.name) ≡ true = scalars-chars e.value.name h.name in
    let kind : is_word (kind_word e.value.kind) ≡ true = is_word-kind e.value.kind in
    let index = extern_index_writes s named e.value.kind e.value.index small (is_word-decimal e.value.index small) in
    let held : Forest = Group (Word (kind_word e.value.kind) (extern_index_items s e.value.kind e.value.index)) End in
    let written : Writes Bound (export_pieces s e) Bound (Group (Word (codes "export") (String (encode_utf8_all (chars e.value.name)) held)) End) =
    break_writes (line_group_space_writes (codes "export") _ refl refl
    (quoted_writes scalar (one_space_writes refl (line_group_space_writes (kind_word e.value.kind) _ refl kind index)))) in
    rw (encodes-chars e.value.name h.name) at written

kind_of_word-kind : (kind : ExternKind) → kind_of_word (kind_word kind) ≡ Some kind
unfolding kind_word kind_of_word
kind_of_word-kind FuncKind = refl
kind_of_word-kind TableKind = refl
kind_of_word-kind MemoryKind = refl
kind_of_word-kind GlobalKind = refl
kind_of_word-kind TagKind = refl

module _ (s : Scope) (c : Context) (n : Counts) (scoped : AreScoped s c n) where
  extern_index-items : (kind : ExternKind) (i : ℕ) → i < count_in n (space_of kind) → i < 2 ^ 32 →
      index (space_in c.spaces (space_of kind)) (extern_index_items s kind i) ≡ Some i
  extern_index-items TagKind i declared small = index-decimal c.spaces.tags i small
  extern_index-items FuncKind i declared small = own_index-reads s c n scoped Func (space_of-module FuncKind) i declared small
  extern_index-items TableKind i declared small = own_index-reads s c n scoped Table (space_of-module TableKind) i declared small
  extern_index-items MemoryKind i declared small = own_index-reads s c n scoped Memory (space_of-module MemoryKind) i declared small
  extern_index-items GlobalKind i declared small = own_index-reads s c n scoped Global (space_of-module GlobalKind) i declared small

  pub read_export-items : (e : Export) → IsRangedExport e → IsIndex n (space_of e.kind) e.index → read_export c (export_items s e) ≡ Some e
  read_export-items e h d =
      rw (
        is_utf8-from_IsUtf8 e.name h.name,
        kind_of_word-kind e.kind,
        extern_index-items e.kind e.index (space_of-counted e.kind n e.index d) h.index,
      )
