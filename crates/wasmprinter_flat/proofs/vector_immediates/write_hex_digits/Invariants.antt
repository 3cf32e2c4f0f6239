use Rattle.std.specs.Prelude.{[], ◌∷◌, reverse}
use Rattle.std.specs.Slice.Iter.{iter_rest}
use Rattle.std.specs.Iterator.Adapters.{rev_source}
use Rattle.wasmprinter_spec.specs.Call.{Text}
use Rattle.wasmprinter_spec.specs.Layout.Operators.{hex_digits}
use Rattle.wasmprinter_flat.proofs.vector_immediates.write_hex_digits.Given as goal

abbrev pub invariant-loop-byte : goal.invariant-loop-byte
invariant-loop-byte g l =
    (t : _) → g.O.Output.called l.out t (Text (hex_digits (reverse (iter_rest (rev_source l.byte-iterator)))) ∷ []) →
    g.O.Output.called l.fn.out t (Text (hex_digits (reverse l.bytes)) ∷ [])
