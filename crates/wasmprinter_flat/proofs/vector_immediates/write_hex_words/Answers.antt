use Rattle.std.proofs.Common.{◌∙◌}
use Rattle.wasmprinter_flat.proofs.Lanes.{words-next, words-none}
use Rattle.wasmprinter_flat.proofs.vector_immediates.write_hex_words.Goals as goal

pub loop-word-preserved : goal.loop-word-preserved
loop-word-preserved g c =
    let (same_size, (joined, long), remainder) = c.in-Some.ensures.steps in
    let step = words-next _ _ _ joined (long ∙ c.loop-word.invariant.0) in (
      same_size ∙ c.loop-word.invariant.0,
      λ t w. c.loop-word.invariant.1 t (rw step (g.met.O.Output.text_then _ _ _ _ _ _ c.write_hex_word.ensures w)),
    )

pub returns : goal.returns
returns g c =
    let (same_size, (short, stays), remainder) = c.in-None.ensures.steps in
    let none = words-none _ (rw c.loop-word.invariant.0 at short) in
    c.loop-word.invariant.1 _ (rw none (g.met.O.Output.no_text _))
