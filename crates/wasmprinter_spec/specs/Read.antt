-- Reading a text (section 6 of the standard): the module that it represents, or None. Identifiers may be used
-- before they are declared, so the fields are sorted by kind and their identifiers collected before any field is
-- read. The reader has folded operators (section 6.5), and these abbreviations of section 6.6: groups of several
-- parameters, results, locals and fields; an offset or item that is one operator; segments without their table or
-- memory.
use Rattle.std.specs.Prelude.{ℕ, List, [], ◌∷◌, ◌++◌, Bool, true, false, codes, bytes_eq, Option, Some, None, if◌then◌else◌, map, option_map}
use Rattle.std.specs.List.{filter}
use Rattle.std.specs.Str.{is_utf8}
use Rattle.wasmprinter_spec.specs.Grammar.{◌>>=◌}
use Rattle.wasmprinter_spec.specs.Forest.{Forest, End, Word, Group, forest, without_annotations, customs}
use Rattle.wasmprinter_spec.specs.Types.{SubType, ExternKind, FuncKind, TableKind, MemoryKind, GlobalKind, TagKind, concat, all_types, signature_at}
use Rattle.wasmprinter_spec.specs.Module.{Module}
use Rattle.wasmprinter_spec.specs.IndexSpaces.{Identifiers, index_space, Spaces, Context}
use Rattle.wasmprinter_spec.specs.Text.Items.{each, identifier_in_front}
use Rattle.wasmprinter_spec.specs.Text.Types.{Declared, group_members, group_types, field_space, read_group}
use Rattle.wasmprinter_spec.specs.Text.Functions.{read_function}
use Rattle.wasmprinter_spec.specs.Text.Imports.{ImportField, import_field, read_import}
use Rattle.wasmprinter_spec.specs.Text.Tables.{read_table}
use Rattle.wasmprinter_spec.specs.Text.Memories.{read_memory}
use Rattle.wasmprinter_spec.specs.Text.Globals.{read_global}
use Rattle.wasmprinter_spec.specs.Text.Elements.{read_element}
use Rattle.wasmprinter_spec.specs.Text.DataSegments.{read_data}
use Rattle.wasmprinter_spec.specs.Text.Tags.{read_tag}
use Rattle.wasmprinter_spec.specs.Text.Exports.{read_export}
use Rattle.wasmprinter_spec.specs.Text.Start.{read_start}
use Rattle.wasmprinter_spec.specs.Text.Customs.{read_custom}
use Rattle.wasmprinter_spec.specs.Customs.{RawCustom}

-- ---- Fields

-- The content of the fields after their words, sorted by kind, each kind in order. Types are in their groups.
pub record Fields : Type 0 where
  pub types : List (List Forest)
  pub imports : List ImportField
  pub functions : List Forest
  pub tables : List Forest
  pub memories : List Forest
  pub tags : List Forest
  pub globals : List Forest
  pub exports : List Forest
  pub start : Option Forest
  pub elements : List Forest
  pub data_segments : List Forest

-- No fields of any kind.
abbrev pub no_fields : Fields
no_fields = record {
  types = [];
  imports = [];
  functions = [];
  tables = [];
  memories = [];
  tags = [];
  globals = [];
  exports = [];
  start = None;
  elements = [];
  data_segments = [];
}

-- There is at most one start function.
abbrev pub with_start : Forest → Fields → Option Forest → Option Fields
with_start f m None = Some (record m { start = Some f })
with_start f m (Some g) = None

-- Imports come before all definitions in the index spaces that they share.
abbrev pub fields_without_imports : Fields → List ImportField → Option Fields
fields_without_imports m [] = Some m
fields_without_imports m (i ∷ is) = None

-- A field before others, by its word; None if it may not come before them.
abbrev pub with_field : List ℕ → Forest → Fields → Option Fields
with_field w f m =
    if bytes_eq w (codes "type") then Some (record m { types = (f ∷ []) ∷ m.types }) else
    (if bytes_eq w (codes "rec") then option_map (λ fs. record m { types = fs ∷ m.types }) (group_members f) else
    (if bytes_eq w (codes "import") then option_map (λ i. record m { imports = i ∷ m.imports }) (import_field f) else
    (if bytes_eq w (codes "func") then fields_without_imports (record m { functions = f ∷ m.functions }) m.imports else
    (if bytes_eq w (codes "table") then fields_without_imports (record m { tables = f ∷ m.tables }) m.imports else
    (if bytes_eq w (codes "memory") then fields_without_imports (record m { memories = f ∷ m.memories }) m.imports else
    (if bytes_eq w (codes "tag") then fields_without_imports (record m { tags = f ∷ m.tags }) m.imports else
    (if bytes_eq w (codes "global") then fields_without_imports (record m { globals = f ∷ m.globals }) m.imports else
    (if bytes_eq w (codes "export") then Some (record m { exports = f ∷ m.exports }) else
    (if bytes_eq w (codes "start") then with_start f m m.start else
    (if bytes_eq w (codes "elem") then Some (record m { elements = f ∷ m.elements }) else
    (if bytes_eq w (codes "data") then Some (record m { data_segments = f ∷ m.data_segments }) else None)))))))))))

-- The fields of a module, sorted by kind.
abbrev pub fields : Forest → Option Fields
fields End = Some no_fields
fields (Group (Word w f) g) = fields g >>= with_field w f
fields _ = None

-- ---- Identifiers

-- The identifiers of declarations.
abbrev pub identifiers_of : List Forest → Identifiers
identifiers_of fs = map (λ f. (identifier_in_front f).0) fs

-- The two kinds are equal.
abbrev pub same_kind : ExternKind → ExternKind → Bool
same_kind FuncKind FuncKind = true
same_kind TableKind TableKind = true
same_kind MemoryKind MemoryKind = true
same_kind GlobalKind GlobalKind = true
same_kind TagKind TagKind = true
same_kind _ _ = false

-- The identifiers of the imports of a kind.
abbrev pub imported_ids : ExternKind → List ImportField → Identifiers
imported_ids kind is = identifiers_of (map (λ i. i.item) (filter (λ i. same_kind kind i.kind) is))

-- An index space, in which imports come first.
abbrev pub space_after : ExternKind → List ImportField → List Forest → Option Identifiers
space_after kind is fs = index_space (imported_ids kind is ++ identifiers_of fs)

-- The index spaces outside functions.
abbrev pub spaces_of : Fields → Option Spaces
spaces_of m = do
  types ← index_space (identifiers_of (concat m.types))
  functions ← space_after FuncKind m.imports m.functions
  tables ← space_after TableKind m.imports m.tables
  memories ← space_after MemoryKind m.imports m.memories
  tags ← space_after TagKind m.imports m.tags
  globals ← space_after GlobalKind m.imports m.globals
  elems ← index_space (identifiers_of m.elements)
  data_segments ← index_space (identifiers_of m.data_segments)
  Some (record {
    types = types;
    functions = functions;
    tables = tables;
    memories = memories;
    tags = tags;
    globals = globals;
    elems = elems;
    data_segments = data_segments;
    locals = [];
  })

-- ---- The module

-- The context of a module, by its types with the identifiers of their fields.
abbrev pub context : Spaces → List (List (Declared SubType)) → Context
context s types = record { spaces = s; signature = signature_at (all_types (group_types types)); fields = field_space types }

-- The module with these fields, without custom sections.
abbrev pub module_of_fields : Fields → Option Module
module_of_fields m = do
  spaces ← spaces_of m
  types ← each (read_group spaces.types) m.types
  imports ← each (read_import (context spaces types)) m.imports
  functions ← each (read_function (context spaces types)) m.functions
  tables ← each (read_table (context spaces types)) m.tables
  memories ← each read_memory m.memories
  tags ← each (read_tag (context spaces types)) m.tags
  globals ← each (read_global (context spaces types)) m.globals
  exports ← each (read_export (context spaces types)) m.exports
  start ← read_start spaces m.start
  elements ← each (read_element (context spaces types)) m.elements
  data_segments ← each (read_data (context spaces types)) m.data_segments
  Some (record {
    types = group_types types;
    imports = imports;
    functions = functions;
    tables = tables;
    memories = memories;
    tags = tags;
    globals = globals;
    exports = exports;
    start = start;
    elements = elements;
    data_segments = data_segments;
    customs = [];
  })

-- The content of a group `module` after its identifier.
abbrev pub module_fields : Forest → Option Forest
module_fields (Group (Word w f) End) = if bytes_eq w (codes "module") then Some (identifier_in_front f).1 else None
module_fields _ = None

-- The module of a text that has these nested groups and no annotations. It has no custom sections.
abbrev pub read_forest : Forest → Option Module
read_forest f = module_fields f >>= fields >>= module_of_fields

-- The custom sections of a text, each without the annotations in it.
abbrev pub read_customs : Forest → Option (List RawCustom)
read_customs f = each (λ c. read_custom (without_annotations c)) (customs f)

-- The module of a text with these nested groups, with its custom sections.
abbrev pub read_groups : Forest → Option Module
read_groups f = read_forest (without_annotations f) >>= λ m. read_customs f >>= λ cs. Some (record m { customs = cs })

-- The module that a text represents, or None if there is no such module.
abbrev pub read : List ℕ → Option Module
read text = if is_utf8 text then forest text >>= read_groups else None
