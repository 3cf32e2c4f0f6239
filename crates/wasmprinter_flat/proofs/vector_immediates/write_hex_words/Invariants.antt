use Rattle.std.specs.Prelude.{◌≡◌, [], ◌∷◌}
use Rattle.std.specs.Slice.Iter.{chunks_exact_rest, chunks_exact_size}
use Rattle.wasmprinter_spec.specs.Call.{Text}
use Rattle.wasmprinter_spec.specs.Piece.{after_spaces}
use Rattle.wasmprinter_spec.specs.Layout.Operators.{hex_words}
use Rattle.wasmprinter_flat.proofs.vector_immediates.write_hex_words.Given as goal

abbrev pub invariant-loop-word : goal.invariant-loop-word
invariant-loop-word g l =
    (chunks_exact_size l.word-iterator ≡ 4)
    × ((t : _) → g.O.Output.called l.out t (Text (after_spaces (hex_words (chunks_exact_rest l.word-iterator))) ∷ []) →
    g.O.Output.called l.fn.out t (Text (after_spaces (hex_words l.bytes)) ∷ []))
