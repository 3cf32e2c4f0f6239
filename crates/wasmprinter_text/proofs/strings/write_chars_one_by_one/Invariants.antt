use Rattle.std.proofs.Common.{IsUtf8, chars, ◌∷◌, []}
use Rattle.std.specs.Prelude.{flat_map}
use Rattle.std.specs.Str.Iter.{chars_rest}
use Rattle.wasmprinter_spec.specs.Call.{Text}
use Rattle.wasmprinter_spec.specs.Quoted.{char_text}
use Rattle.wasmprinter_text.proofs.strings.write_chars_one_by_one.Given as goal

abbrev pub invariant-loop-c : goal.invariant-loop-c
invariant-loop-c g l =
    IsUtf8 (chars_rest l.c-iterator)
    × ((t : _) → g.O.Output.called l.out t (Text (flat_map char_text (chars (chars_rest l.c-iterator))) ∷ []) →
    g.O.Output.called l.fn.out t (Text (flat_map char_text (chars l.fn.s)) ∷ []))
