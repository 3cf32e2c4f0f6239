-- The start section (section 5.5 of the standard, "Start Section"): the index of a function.
use Rattle.std.specs.Prelude.{ℕ, Option, Some}
use Rattle.wasmprinter_spec.specs.Grammar.{Remainder, map_value, Placed, value_with_place}
use Rattle.wasmprinter_spec.specs.Sized.{alone}
use Rattle.wasmprinter_spec.specs.Name.{u32}

-- The content of a start section.
abbrev pub start_section : Remainder (Option (Placed ℕ))
start_section = alone (map_value Some (value_with_place u32))
