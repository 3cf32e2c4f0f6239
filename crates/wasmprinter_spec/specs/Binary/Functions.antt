-- The function section (section 5.5 of the standard, "Function Section"): a list of type indices, one for each
-- function that the module defines.
use Rattle.std.specs.Prelude.{ℕ, List}
use Rattle.wasmprinter_spec.specs.Grammar.{Remainder}
use Rattle.wasmprinter_spec.specs.Sized.{alone}
use Rattle.wasmprinter_spec.specs.Name.{u32, vec}

-- The content of a function section.
abbrev pub function_section : Remainder (List ℕ)
function_section = alone (vec u32)
