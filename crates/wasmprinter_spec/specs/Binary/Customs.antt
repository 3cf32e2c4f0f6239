-- Custom sections (section 5.5 of the standard, "Custom Section"): a name, and bytes to which the standard gives
-- no meaning.
use Rattle.std.specs.Prelude.{Some}
use Rattle.wasmprinter_spec.specs.Grammar.{Remainder, Placed}
use Rattle.wasmprinter_spec.specs.Sized.{seq_to_end, remaining_bytes, try_map_by_end, whole_with_place}
use Rattle.wasmprinter_spec.specs.Name.{name}
use Rattle.wasmprinter_spec.specs.Placed.{Custom, custom_of}

-- The content of a custom section, with the place of its first byte.
abbrev pub custom_section : Remainder (Placed Custom)
custom_section = whole_with_place (try_map_by_end (λ end x. Some (custom_of x.0 x.1)) (seq_to_end name remaining_bytes))
