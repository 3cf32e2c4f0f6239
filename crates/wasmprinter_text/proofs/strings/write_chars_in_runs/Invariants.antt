use Rattle.std.proofs.Common.{IsUtf8, chars, length, ◌∷◌, []}
use Rattle.std.specs.Prelude.{flat_map}
use Rattle.wasmprinter_spec.specs.Call.{Text}
use Rattle.wasmprinter_spec.specs.Quoted.{char_text}
use Rattle.wasmprinter_text.proofs.strings.write_chars_in_runs.Given as goal

abbrev pub invariant-loop-first : goal.invariant-loop-first
invariant-loop-first g l =
    IsUtf8 l.rest
    × ((t : _) → g.O.Output.called l.out t (Text (flat_map char_text (chars l.rest)) ∷ []) →
    g.O.Output.called l.fn.out t (Text (flat_map char_text (chars l.fn.s)) ∷ []))

abbrev pub decreases-loop-first : goal.decreases-loop-first
decreases-loop-first g l = length l.rest
