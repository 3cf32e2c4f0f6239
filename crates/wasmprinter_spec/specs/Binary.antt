-- How bytes encode a module (section 5.5 of the standard, "Modules"): a preamble, and sections up to the end.
use Rattle.std.specs.Prelude.{◌≡◌, ℕ, ◌<◌, Bool, true, ◌&&◌, ◌==◌, length, List, [], ◌∷◌, ◌++◌, bytes_eq, Option, Some, None, if◌then◌else◌}
use Rattle.std.specs.List.{AllByRecursion}
use Rattle.wasmprinter_spec.specs.Grammar.{Grammar, Remainder, ◌>>=◌, try_map, Placed}
use Rattle.wasmprinter_spec.specs.Repeated.{until_end}
use Rattle.wasmprinter_spec.specs.Sized.{take_bytes, seq_to_end, try_map_by_end}
use Rattle.wasmprinter_spec.specs.Types.{MemoryType}
use Rattle.wasmprinter_spec.specs.Operator.{Operator}
use Rattle.wasmprinter_spec.specs.Placed.{TypeGroup, Import, Table, Global, ElementEntry, Data, Body, Export, CustomEntry, PlacedFunction, PlacedModule}
use Rattle.wasmprinter_spec.specs.Sections.{Section, TypeSection, ImportSection, FunctionSection, TableSection, MemorySection, TagSection, GlobalSection, ExportSection, StartSection, ElementSection, DataCountSection, CodeSection, DataSection, section, are_above, content_in, customs_after}
pub mod ValTypes
pub mod Types
pub mod Functions
pub mod Limits
pub mod Memories
pub mod Tables
pub mod Globals
pub mod Imports
pub mod Elements
pub mod DataSegments
pub mod Tags
pub mod Exports
pub mod Start
pub mod Code
pub mod Customs

-- The magic.
abbrev pub magic : List ℕ
magic = 0x00 ∷ 0x61 ∷ 0x73 ∷ 0x6d ∷ []

-- The magic and the version.
abbrev pub preamble_bytes : List ℕ
preamble_bytes = magic ++ (0x01 ∷ 0x00 ∷ 0x00 ∷ 0x00 ∷ [])

-- The preamble of a module (section 5.5, "Modules"): the magic and the version.
abbrev pub preamble : Grammar (List ℕ)
preamble = try_map (λ bytes. if bytes_eq bytes preamble_bytes then Some bytes else None) (take_bytes 8)

-- The content of the section of each kind among these sections, or the empty list or `None` if there is no such
-- section: `types_in`, `imports_in`, `type_indices_in` (the type of each defined function), `tables_in`,
-- `memories_in`, `tags_in`, `globals_in`, `exports_in`, `start_in`, `elements_in`, `data_count_in`, `bodies_in` and
-- `datas_in`.
abbrev pub types_in : List Section → List (Placed TypeGroup)
types_in ss = content_in TypeSection [] ss

abbrev pub imports_in : List Section → List (Placed Import)
imports_in ss = content_in ImportSection [] ss

abbrev pub type_indices_in : List Section → List ℕ
type_indices_in ss = content_in FunctionSection [] ss

abbrev pub tables_in : List Section → List (Placed (Table (Placed Operator)))
tables_in ss = content_in TableSection [] ss

abbrev pub memories_in : List Section → List (Placed MemoryType)
memories_in ss = content_in MemorySection [] ss

abbrev pub tags_in : List Section → List (Placed ℕ)
tags_in ss = content_in TagSection [] ss

abbrev pub globals_in : List Section → List (Placed (Global (Placed Operator)))
globals_in ss = content_in GlobalSection [] ss

abbrev pub exports_in : List Section → List (Placed Export)
exports_in ss = content_in ExportSection [] ss

abbrev pub start_in : List Section → Option (Placed ℕ)
start_in ss = content_in StartSection None ss

abbrev pub elements_in : List Section → List (Placed ElementEntry)
elements_in ss = content_in ElementSection [] ss

abbrev pub data_count_in : List Section → Option ℕ
data_count_in ss = content_in DataCountSection None ss

abbrev pub bodies_in : List Section → List (Placed Body)
bodies_in ss = content_in CodeSection [] ss

abbrev pub datas_in : List Section → List (Placed (Data (Placed Operator)))
datas_in ss = content_in DataSection [] ss

-- The custom sections among these sections, in order.
abbrev pub customs_in : List Section → List CustomEntry
customs_in ss = customs_after None ss

-- The type index and the body of each function, or None if their numbers differ.
abbrev pub function_pairs : List ℕ → List (Placed Body) → Option (List PlacedFunction)
function_pairs [] [] = Some []
function_pairs (i ∷ is) (b ∷ bs) = function_pairs is bs >>= λ fs. Some (record { type_index = i; body = b } ∷ fs)
function_pairs _ _ = None

-- The module of these sections, with these functions. `size` is the place where the sections end.
abbrev pub module_from : ℕ → List Section → List PlacedFunction → PlacedModule
module_from size ss fs = record {
  types = types_in ss;
  imports = imports_in ss;
  tables = tables_in ss;
  memories = memories_in ss;
  tags = tags_in ss;
  globals = globals_in ss;
  exports = exports_in ss;
  start = start_in ss;
  elements = elements_in ss;
  functions = fs;
  data_segments = datas_in ss;
  customs = customs_in ss;
  size = size;
}

-- A data count, if there is one, is the number of data segments.
abbrev pub counts_data : Option ℕ → ℕ → Bool
counts_data None n = true
counts_data (Some count) n = count == n

-- The module with these sections, which end at the place `size`. None if the sections are not in order, if a data
-- count is not the number of data segments, or if the numbers of function entries and bodies differ.
abbrev pub module_of_sections : ℕ → List Section → Option PlacedModule
module_of_sections size ss =
    if are_above 0 ss && counts_data (data_count_in ss) (length (datas_in ss))
    then (function_pairs (type_indices_in ss) (bodies_in ss) >>= λ fs. Some (module_from size ss fs)) else None

-- A module: the preamble, and sections up to the end of the bytes that `module_of_sections` accepts.
abbrev pub binary : Remainder PlacedModule
binary = try_map_by_end (λ size x. module_of_sections size x.1) (seq_to_end preamble (until_end section))

-- Every number is a byte.
abbrev pub AreBytes : List ℕ → Type 0
AreBytes bytes = AllByRecursion (λ b. b < 256) bytes

-- The bytes encode the module m, with its places.
pub record Spells (bytes : List ℕ) (m : PlacedModule) : Type 0 where
  pub are_bytes : AreBytes bytes
  pub spelled : binary.spells 0 bytes m

-- The bytes are marked as a component: the magic, and 01 00 at the places 6 and 7.
abbrev pub IsComponent : List ℕ → Type 0
IsComponent bytes = (a b : ℕ) × (rest : List ℕ) × (bytes ≡ magic ++ (a ∷ b ∷ 0x01 ∷ 0x00 ∷ rest))
