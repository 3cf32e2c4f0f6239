-- The numbers of items that a name section can name, as the program counts them once for each module.
use Rattle.std.specs.Prelude.{◌≡◌, ℕ, ◌+◌, List, ◌++◌, length, map}
use Rattle.std.specs.List.{filter}
use Rattle.wasmprinter_spec.specs.Grammar.{Placed}
use Rattle.wasmprinter_spec.specs.Repeated.{some_or}
use Rattle.wasmprinter_spec.specs.Types.{all_types, signature_at}
use Rattle.wasmprinter_spec.specs.Instructions.{roles}
use Rattle.wasmprinter_spec.specs.Placed.{PlacedModule, Body}
use Rattle.wasmprinter_spec.specs.Module.{groups_of, without_places, imported_types, func_import, table_import, memory_import, global_import, tag_import}
use Rattle.wasmprinter_hidden.specs.HiddenNames.{imported, sum, opens}
use Rattle.wasmprinter_hidden.specs.declared.name_counts.FunctionCounts.{FunctionCounts}

-- The number of parameters of the function type with this index; 0 if there is no such type.
abbrev pub params_of : PlacedModule → ℕ → ℕ
params_of m i = some_or (signature_at (all_types (groups_of m.types)) i) 0 (λ t. length t.params)

-- The number of locals that the body declares.
abbrev pub declared_in : Placed Body → ℕ
declared_in b = sum (map (λ e. e.value.count) b.value.locals)

-- The number of blocks in the body.
abbrev pub blocks_in : Placed Body → ℕ
blocks_in b = length (filter opens (roles b.value.operators))

-- The counts with these fields.
abbrev pub counts : ℕ → ℕ → FunctionCounts
counts locals labels = record { locals = locals; labels = labels }

-- The counts of the imported functions.
abbrev pub of_imported : PlacedModule → List FunctionCounts
of_imported m = map (λ i. counts (params_of m i) 0) (imported_types func_import (without_places m.imports))

-- The counts of the functions that the module defines.
abbrev pub of_defined : PlacedModule → List FunctionCounts
of_defined m = map (λ f. counts (params_of m f.type_index + declared_in f.body) (blocks_in f.body)) m.functions

-- The counts of all functions.
abbrev pub function_counts : PlacedModule → List FunctionCounts
function_counts m = of_imported m ++ of_defined m

-- The numbers of the module's types, tables, memories, globals and tags, and the counts of its functions.
pub record AreCounts (m : PlacedModule) (types tables memories globals tags : ℕ) (functions : List FunctionCounts) : Type 0 where
  pub of_types : types ≡ length (all_types (groups_of m.types))
  pub of_tables : tables ≡ imported m table_import + length m.tables
  pub of_memories : memories ≡ imported m memory_import + length m.memories
  pub of_globals : globals ≡ imported m global_import + length m.globals
  pub of_tags : tags ≡ imported m tag_import + length m.tags
  pub of_functions : functions ≡ function_counts m
