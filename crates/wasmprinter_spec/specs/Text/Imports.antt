-- Imports in the text format (section 6.6 of the standard, "Imports").
use Rattle.std.specs.Prelude.{ℕ, List, ◌&&◌, Option, Some, None, option_map, if◌then◌else◌}
use Rattle.std.specs.Str.{is_utf8}
use Rattle.wasmprinter_spec.specs.Grammar.{◌>>=◌}
use Rattle.wasmprinter_spec.specs.Forest.{Forest, End, Word, String, Group}
use Rattle.wasmprinter_spec.specs.Types.{ExternKind, FuncKind, TableKind, MemoryKind, GlobalKind, TagKind, ExternType, FuncExtern, TableExtern, MemoryExtern, GlobalExtern, TagExtern}
use Rattle.wasmprinter_spec.specs.Placed.{Import, import_of}
use Rattle.wasmprinter_spec.specs.IndexSpaces.{Context}
use Rattle.wasmprinter_spec.specs.Text.Items.{identifier_in_front, value_at_end}
use Rattle.wasmprinter_spec.specs.Text.TypeIndices.{type_index}
use Rattle.wasmprinter_spec.specs.Text.Memories.{memory_type}
use Rattle.wasmprinter_spec.specs.Text.Tables.{table_type}
use Rattle.wasmprinter_spec.specs.Text.Globals.{global_type}
use Rattle.wasmprinter_spec.specs.Text.Exports.{kind_of_word}

-- An import by its kind: the two names, and the content of its inner group after the word.
pub record ImportField : Type 0 where
  pub kind : ExternKind
  pub source : List ℕ
  pub name : List ℕ
  pub item : Forest

-- The import with the name of its module m, its name n, the content f after the word of its kind, and the kind.
abbrev pub field_of : List ℕ → List ℕ → Forest → ExternKind → ImportField
field_of m n f kind = record { kind = kind; source = m; name = n; item = f }

-- An import: two names, which must be UTF-8, and a group with the word of the kind. The content of the group is read
-- later (`read_import`).
abbrev pub import_field : Forest → Option ImportField
import_field (String m (String n (Group (Word w f) End))) =
    if is_utf8 m && is_utf8 n then option_map (field_of m n f) (kind_of_word w) else None
import_field _ = None

-- The type of an import, read after its identifier.
abbrev pub extern_type : Context → ExternKind → Forest → Option ExternType
extern_type c FuncKind f = option_map FuncExtern (type_index c f)
extern_type c TableKind f = option_map TableExtern (table_type c f >>= value_at_end)
extern_type c MemoryKind f = option_map MemoryExtern (memory_type f)
extern_type c GlobalKind f = option_map GlobalExtern (global_type c f >>= value_at_end)
extern_type c TagKind f = option_map TagExtern (type_index c f)

-- An import with its type.
abbrev pub read_import : Context → ImportField → Option Import
read_import c i = extern_type c i.kind (identifier_in_front i.item).1 >>= λ t. Some (import_of i.source i.name t)
