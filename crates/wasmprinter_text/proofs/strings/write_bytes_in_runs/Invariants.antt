use Rattle.std.proofs.Common.{◌≡◌, ◌∷◌, []}
use Rattle.std.specs.Prelude.{flat_map}
use Rattle.std.specs.Slice.Iter.{chunks_rest, chunks_size}
use Rattle.wasmprinter_spec.specs.Call.{Text}
use Rattle.wasmprinter_spec.specs.Quoted.{byte_text}
use Rattle.wasmprinter_text.proofs.strings.write_bytes_in_runs.Given as goal

abbrev pub invariant-loop-chunk : goal.invariant-loop-chunk
invariant-loop-chunk g l =
    (goal.iterator-loop-chunk g).can_next l.chunk-iterator
    × (goal.iterator-loop-chunk g).is_finite l.chunk-iterator
    × (chunks_size l.chunk-iterator ≡ 85)
    × ((t : _) → g.O.Output.called l.out t (Text (flat_map byte_text (chunks_rest l.chunk-iterator)) ∷ []) →
    g.O.Output.called l.fn.out t (Text (flat_map byte_text l.fn.bytes) ∷ []))
