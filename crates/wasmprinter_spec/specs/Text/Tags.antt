-- Tags in the text format (section 6.6 of the standard, "Tags").
use Rattle.std.specs.Prelude.{ℕ, Option}
use Rattle.wasmprinter_spec.specs.Forest.{Forest}
use Rattle.wasmprinter_spec.specs.IndexSpaces.{Context}
use Rattle.wasmprinter_spec.specs.Text.Items.{identifier_in_front}
use Rattle.wasmprinter_spec.specs.Text.TypeIndices.{type_index}

-- A tag, which may have an identifier before it.
abbrev pub read_tag : Context → Forest → Option ℕ
read_tag c f = type_index c (identifier_in_front f).1
