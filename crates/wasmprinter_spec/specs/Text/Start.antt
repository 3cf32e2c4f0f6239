-- The start function in the text format (section 6.6 of the standard, "Start Function").
use Rattle.std.specs.Prelude.{ℕ, Option, Some, None, option_map}
use Rattle.wasmprinter_spec.specs.Forest.{Forest}
use Rattle.wasmprinter_spec.specs.IndexSpaces.{Spaces, index}

-- The index in the field `start`, if there is such a field.
abbrev pub read_start : Spaces → Option Forest → Option (Option ℕ)
read_start s None = Some None
read_start s (Some f) = option_map Some (index s.functions f)
