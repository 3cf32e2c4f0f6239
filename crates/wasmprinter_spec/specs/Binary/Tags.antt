-- The tag section (section 5.5 of the standard, "Tag Section"): a list of tags, each a byte 00 and the index of
-- its type.
use Rattle.std.specs.Prelude.{ℕ, List}
use Rattle.wasmprinter_spec.specs.Grammar.{Grammar, Remainder, seq, map_value, Placed, value_with_place}
use Rattle.wasmprinter_spec.specs.FirstByte.{only}
use Rattle.wasmprinter_spec.specs.Sized.{alone}
use Rattle.wasmprinter_spec.specs.Name.{u32, vec}

-- A tag (section 5.3 of the standard, "Tag Types"), as the index of its type.
abbrev pub tag : Grammar ℕ
tag = map_value (λ x. x.1) (seq (only 0x00) (λ _. u32))

-- The content of a tag section.
abbrev pub tag_section : Remainder (List (Placed ℕ))
tag_section = alone (vec (value_with_place tag))
