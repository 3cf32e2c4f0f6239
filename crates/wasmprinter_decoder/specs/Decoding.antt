-- The errors of decoding, each with its reason in the bytes.
use Rattle.std.specs.Prelude.{◌≡◌, ℕ, ◌+◌, ◌<◌, ◌≤◌, List, length, Result, Ok, Err}
use Rattle.wasmprinter_spec.specs.Grammar.{input}
use Rattle.wasmprinter_spec.specs.Placed.{PlacedModule}
use Rattle.wasmprinter_spec.specs.Binary.{Spells, IsComponent}
use Rattle.wasmprinter_spec.specs.Sections.{FunctionSection}
use Rattle.wasmprinter_spec.specs.Limits.{IsWithinLimits, most_functions}
use Rattle.wasmprinter_bytes.specs.declared.library_error.Error.{Error}
use Rattle.wasmprinter_bytes.specs.Reasons.{Reasons, HasReason}
use Rattle.wasmprinter_decoder.specs.Refusals.{HasManyLocals, HasEmptyInit, BeginsSection, KeepsSome, FirstIsOver, FirstIsEmpty}
use Rattle.wasmprinter_decoder.specs.Modules.{bodies_of}

-- The number of items of a module: groups of types, imports, functions, tables, memories, tags, globals, exports,
-- element segments, data segments and custom sections.
abbrev pub items_held : PlacedModule → ℕ
items_held m =
    length m.types + length m.imports + length m.functions + length m.tables + length m.memories + length m.tags + length m.globals
    + length m.exports + length m.elements + length m.data_segments + length m.customs

-- The module has at least one item.
abbrev pub HoldsSome : PlacedModule → Type 0
HoldsSome m = 0 < items_held m

-- The module has no group of types, import, function, table, memory, tag, global, export, segment or custom section.
-- It may have a start function.
abbrev pub HoldsNothing : PlacedModule → Type 0
HoldsNothing m = items_held m ≡ 0

-- The reason for each error of decoding: the bytes are a component; they encode no module; the first function
-- with too many locals has its body at the place; there are too many functions; the first table with an empty initialiser
-- is at the place; or an allocation failed. An allocation can fail only if the bytes contain a section of items with a
-- count above zero or a custom section, and if every module that they encode has an item. If the bytes encode no
-- module, the reasons for the three limits say only that the bytes contain such locals or such a table at the place, or
-- anywhere the start of a function section with the count. `component` says when the bytes are refused as a component.
abbrev pub module_reasons : List ℕ → Type 0 → Reasons
module_reasons bytes component = record {
  malformed = λ place. ((m : PlacedModule) → Spells bytes m → ⊥) × (place ≤ length bytes);
  component = component;
  locals = λ place. HasManyLocals (input 0 bytes) place × ((m : PlacedModule) → Spells bytes m → FirstIsOver place (bodies_of m.functions));
  functions =
      λ count. BeginsSection (input 0 bytes) FunctionSection count × (most_functions < count)
      × ((m : PlacedModule) → Spells bytes m → length m.functions ≡ count);
  tables = λ place. HasEmptyInit (input 0 bytes) place × ((m : PlacedModule) → Spells bytes m → FirstIsEmpty place m.tables);
  memory = KeepsSome (input 0 bytes) × ((m : PlacedModule) → Spells bytes m → HoldsSome m);
}

-- The error has a true reason, and is not `Component`.
abbrev pub IsFaultOf : List ℕ → Error → Type 0
IsFaultOf bytes e = HasReason (module_reasons bytes ⊥) e

-- The error has its reason, as `module_reasons` lists them. `Component` is returned only if the bytes are marked as a
-- component. Errors of printing are not returned.
abbrev pub HasDecodingReason : List ℕ → Error → Type 0
HasDecodingReason bytes e = HasReason (module_reasons bytes (IsComponent bytes)) e

-- On success the bytes encode the module, and it is within the limits. An error has a true reason.
abbrev pub TakesModule : List ℕ → Result PlacedModule Error → Type 0
TakesModule bytes (Ok m) = Spells bytes m × IsWithinLimits m
TakesModule bytes (Err e) = IsFaultOf bytes e
