use Rattle.std.proofs.Common.{◌-◌, ◌∷◌, []}
use Rattle.wasmprinter_spec.specs.Call.{Text}
use Rattle.wasmprinter_spec.specs.Piece.{repetition_of}
use Rattle.wasmprinter_text.proofs.lines.write_repeated.Given as goal

abbrev pub invariant-loop : goal.invariant-loop
invariant-loop g l =
    (t : _) → g.O.Output.called l.out t (Text (repetition_of (l.count - l.counter) l.s) ∷ []) →
    g.O.Output.called l.fn.out t (Text (repetition_of l.count l.s) ∷ [])
