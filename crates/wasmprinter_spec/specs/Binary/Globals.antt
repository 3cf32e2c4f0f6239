-- How bytes encode global types (section 5.3 of the standard, "Global Types"), and the global section (section
-- 5.5, "Global Section"): a list of globals with their initialisers.
use Rattle.std.specs.Prelude.{List}
use Rattle.wasmprinter_spec.specs.Grammar.{Grammar, Remainder, seq, map_value, Placed, value_with_place}
use Rattle.wasmprinter_spec.specs.Sized.{alone}
use Rattle.wasmprinter_spec.specs.Name.{vec}
use Rattle.wasmprinter_spec.specs.Types.{GlobalType, global_type_of}
use Rattle.wasmprinter_spec.specs.Operator.{Operator}
use Rattle.wasmprinter_spec.specs.Placed.{Global, global_of}
use Rattle.wasmprinter_spec.specs.Instructions.{constant}
use Rattle.wasmprinter_spec.specs.Binary.ValTypes.{val_type}
use Rattle.wasmprinter_spec.specs.Binary.Types.{mutability}

-- A global type: the value type, and whether the global is mutable.
abbrev pub global_type : Grammar GlobalType
global_type = map_value (λ x. global_type_of x.1 x.0) (seq val_type (λ _. mutability))

-- A global: its type and its initialiser.
abbrev pub global : Grammar (Global (Placed Operator))
global = map_value (λ x. global_of x.0 x.1) (seq global_type (λ _. constant))

-- The content of a global section.
abbrev pub global_section : Remainder (List (Placed (Global (Placed Operator))))
global_section = alone (vec (value_with_place global))
