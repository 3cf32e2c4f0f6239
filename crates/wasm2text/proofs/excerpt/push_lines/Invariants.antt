-- The text so far and the lines that are left are the text with all lines.
use Rattle.std.proofs.Common.{◌≡◌, ◌+◌, ◌++◌, drop, string_bytes}
use Rattle.wasmprinter.specs.Found.{text_lines}
use Rattle.wasm2text.specs.Excerpt.{excerpt_lines}
use Rattle.wasm2text.proofs.excerpt.push_lines.Given as goal

abbrev pub invariant-loop-index : goal.invariant-loop-index
invariant-loop-index l =
    string_bytes l.text ++ excerpt_lines l.numbering.width l.numbering.shown (l.first + l.index + 1) (drop l.index (text_lines l.lines))
    ≡ string_bytes l.fn.text ++ excerpt_lines l.numbering.width l.numbering.shown (l.first + 1) (text_lines l.lines)
