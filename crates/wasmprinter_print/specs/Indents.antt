-- The text of one level of indentation.
use Rattle.std.specs.Prelude.{ℕ, List, codes, string_bytes}
use Rattle.wasmprinter_print.specs.declared.options.Indent.{Indent}
use Rattle.wasmprinter_print.specs.declared.options.Indent.TheVariants.{Default, Text}

-- The text of one level of indentation.
abbrev pub indent_text : Indent → List ℕ
indent_text Default = codes "  "
indent_text (Text text) = string_bytes text
