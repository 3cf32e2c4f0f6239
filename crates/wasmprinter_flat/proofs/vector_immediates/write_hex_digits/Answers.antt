use Rattle.wasmprinter_flat.proofs.Lanes.{digits-last}
use Rattle.wasmprinter_flat.proofs.vector_immediates.write_hex_digits.Goals as goal

pub loop-byte-preserved : goal.loop-byte-preserved
loop-byte-preserved g c = λ t w.
    let step = digits-last _ _ _ c.in-Some.ensures.steps in
    c.loop-byte.invariant t (rw step (g.met.O.Output.text_then _ _ _ _ _ _ c.write_byte_digits.ensures w))
