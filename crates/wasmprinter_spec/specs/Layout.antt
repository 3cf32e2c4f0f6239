-- The layout of a module: the pieces that are printed, in order. Sections 6.4 to 6.6 of the standard define how
-- the text of each construct is composed; where lines break and which places are printed is this printer's own.
use Rattle.std.specs.Prelude.{ℕ, ◌+◌, List, [], ◌∷◌, ◌++◌, codes, flat_map, length, Option, Some, None}
use Rattle.wasmprinter_spec.specs.Types.{ExternType, all_types}
use Rattle.wasmprinter_spec.specs.Kinds.{Kind, CustomSection, TypeSection, ImportSection, FunctionSection, TableSection, MemorySection, TagSection, GlobalSection, ExportSection, StartSection, ElementSection, DataCountSection, CodeSection, DataSection}
use Rattle.wasmprinter_spec.specs.Customs.Hints.{hints_of}
use Rattle.wasmprinter_spec.specs.Names.{Names}
use Rattle.wasmprinter_spec.specs.ModuleNames.{module_names}
use Rattle.wasmprinter_spec.specs.Placed.{PlacedModule}
use Rattle.wasmprinter_spec.specs.Module.{groups_of, imported_types, func_import, table_import, memory_import, global_import, tag_import, without_places}
use Rattle.wasmprinter_spec.specs.Call.{Call}
use Rattle.wasmprinter_spec.specs.Options.{Options, Answers}
use Rattle.wasmprinter_spec.specs.Piece.{Piece, Begin, EndLine, Open, all_calls}
use Rattle.wasmprinter_spec.specs.Layout.Groups.{group_at, numbered_pieces}
use Rattle.wasmprinter_spec.specs.Layout.Identifiers.{leading_id_and_name_pieces}
use Rattle.wasmprinter_spec.specs.Layout.Declarations.{Folding, Scope, scope_of, scope_of_function, folding_of}
use Rattle.wasmprinter_spec.specs.Layout.Types.{type_section_pieces}
use Rattle.wasmprinter_spec.specs.Layout.Functions.{functions_pieces}
use Rattle.wasmprinter_spec.specs.Layout.Imports.{no_numbers, imports_pieces}
use Rattle.wasmprinter_spec.specs.Layout.Tables.{table_pieces}
use Rattle.wasmprinter_spec.specs.Layout.Memories.{memory_pieces}
use Rattle.wasmprinter_spec.specs.Layout.Tags.{tag_pieces}
use Rattle.wasmprinter_spec.specs.Layout.Globals.{global_pieces}
use Rattle.wasmprinter_spec.specs.Layout.Exports.{export_pieces}
use Rattle.wasmprinter_spec.specs.Layout.Start.{start_pieces}
use Rattle.wasmprinter_spec.specs.Layout.Elements.{element_pieces}
use Rattle.wasmprinter_spec.specs.Layout.DataSegments.{data_pieces}
use Rattle.wasmprinter_spec.specs.Layout.Customs.{Part, Shown, parts_at, Laid, laid_parts}
pub mod Groups
pub mod Identifiers
pub mod ValTypes
pub mod Variables
pub mod Types
pub mod Declarations
pub mod Operators
pub mod Folded
pub mod Expressions
pub mod Functions
pub mod Limits
pub mod Tables
pub mod Memories
pub mod Tags
pub mod Globals
pub mod Imports
pub mod Exports
pub mod Start
pub mod Elements
pub mod DataSegments
pub mod Customs

-- ---- The fields of a section

-- The number of imported items of a kind. `of_kind` gives the type of an import of the kind.
abbrev count_of_imported : {A : Type 0} → (ExternType → Option A) → PlacedModule → ℕ
count_of_imported of_kind m = length (imported_types of_kind (without_places m.imports))

-- The scope before the functions, with operators folded in this way, or flat. In expressions before the functions,
-- labels and locals are those of the first defined function; in expressions after them, those of the function that
-- would be next. (In a valid module, these expressions have no labels or locals.)
abbrev pub scope_before : Option Folding → Names → PlacedModule → Scope
scope_before folding names m = scope_of (all_types (groups_of m.types)) names (count_of_imported func_import m) folding

-- The scope before the functions, with operators folded as the options say.
abbrev pub early_scope : Options → Names → PlacedModule → Scope
early_scope o names m = scope_before (folding_of o m) names m

-- The scope after the functions, from any scope of the module.
abbrev pub scope_after : PlacedModule → Scope → Scope
scope_after m s = scope_of_function s (count_of_imported func_import m + length m.functions)

-- The pieces of the section of a kind, where `s` is the scope before the functions. Functions are printed at the
-- position of the code section. Data segments have the scope after the functions.
abbrev pub section_pieces : Options → Scope → PlacedModule → Kind → List Piece
section_pieces o s m TypeSection = type_section_pieces s.names 0 m.types
section_pieces o s m ImportSection = imports_pieces s no_numbers m.imports
section_pieces o s m FunctionSection = []
section_pieces o s m TableSection = numbered_pieces (table_pieces s) (count_of_imported table_import m) m.tables
section_pieces o s m MemorySection = numbered_pieces (memory_pieces s) (count_of_imported memory_import m) m.memories
section_pieces o s m TagSection = numbered_pieces (tag_pieces s) (count_of_imported tag_import m) m.tags
section_pieces o s m GlobalSection = numbered_pieces (global_pieces s) (count_of_imported global_import m) m.globals
section_pieces o s m ExportSection = numbered_pieces (λ i e. export_pieces s e) 0 m.exports
section_pieces o s m StartSection = start_pieces s m.start
section_pieces o s m ElementSection = numbered_pieces (element_pieces o.skeleton s) 0 m.elements
section_pieces o s m DataCountSection = []
section_pieces o s m CodeSection = functions_pieces o s (hints_of m.customs) (count_of_imported func_import m) m.functions
section_pieces o s m DataSection = numbered_pieces (data_pieces o.skeleton (scope_after m s)) 0 m.data_segments
section_pieces o s m CustomSection = []

-- ---- The parts of a module

-- The kinds of sections after which custom sections can be placed, in the order of the sections.
abbrev pub section_order : List Kind
section_order =
    TypeSection ∷ ImportSection ∷ FunctionSection ∷ TableSection ∷ MemorySection ∷ TagSection ∷ GlobalSection ∷ ExportSection
    ∷ StartSection ∷ ElementSection ∷ CodeSection ∷ DataSection ∷ []

-- The fields of the section of a kind, and the custom sections after it.
abbrev pub section_parts : Options → Scope → PlacedModule → Answers → Kind → List Part
section_parts o s m answers kind = Shown (section_pieces o s m kind) ∷ parts_at o.skeleton answers (Some kind) 0 m.customs

-- The fields in the order of their sections, with the custom sections at their positions among them. Operators are
-- folded in this way, or flat.
unfoldable pub parts_by : Option Folding → Options → Answers → Names → PlacedModule → List Part
parts_by folding o answers names m =
    parts_at o.skeleton answers None 0 m.customs ++ flat_map (section_parts o (scope_before folding names m) m answers) section_order

-- The fields and the custom sections, with operators folded as the options say.
unfoldable pub module_parts : Options → Answers → Names → PlacedModule → List Part
unfolding parts_by
module_parts o answers names m = parts_by (folding_of o m) o answers names m

-- ---- The module

-- The pieces of a module, given those of its parts: all of them, or those up to the refusal of a custom section.
-- `size` is the number of bytes of the module.
abbrev pub module_pieces_of : Options → Names → ℕ → List Piece → Option ℕ → List Piece
module_pieces_of o names size ps None =
    Begin 0 ∷ (group_at o.offsets size 0 (codes "module") (leading_id_and_name_pieces names.module_name ++ ps) ++ (EndLine ∷ []))
module_pieces_of o names size ps (Some id) =
    Begin 0 ∷ (Open (codes "module") ∷ (leading_id_and_name_pieces names.module_name ++ ps))

-- A module with these identifiers.
unfoldable pub module_pieces_with : Options → Answers → Names → PlacedModule → List Piece
module_pieces_with o answers names m =
    let laid : Laid = laid_parts (module_parts o answers names m) in
    module_pieces_of o names m.size laid.pieces laid.refused

-- A module with the identifiers that its name sections give.
unfoldable pub module_pieces : Options → Answers → PlacedModule → List Piece
module_pieces o answers m = module_pieces_with o answers (module_names o.synthesizes m) m

-- The layout of a module as calls on the printer.
unfoldable pub layout : Options → Answers → PlacedModule → List Call
layout o answers m = all_calls o (module_pieces o answers m)

-- The id of the first unknown subsection of an unclaimed `dylink.0` section. The layout ends after the claim of
-- that section.
abbrev pub refusal : Options → Answers → PlacedModule → Option ℕ
refusal o answers m = (laid_parts (module_parts o answers (module_names o.synthesizes m) m)).refused

-- ---- Operators folded in any way

-- A module with these identifiers, with operators folded in this way, or flat.
unfoldable pub pieces_by : Option Folding → Options → Answers → Names → PlacedModule → List Piece
pieces_by folding o answers names m =
    let laid : Laid = laid_parts (parts_by folding o answers names m) in
    module_pieces_of o names m.size laid.pieces laid.refused

-- The calls for a module whose operators are folded in this way: with ANSI escape sequences in their text or
-- without, and by any arities. The options about folding and colors have no effect on them.
unfoldable pub layout_folded : Folding → Options → Answers → PlacedModule → List Call
layout_folded f o answers m = all_calls o (pieces_by (Some f) o answers (module_names o.synthesizes m) m)
