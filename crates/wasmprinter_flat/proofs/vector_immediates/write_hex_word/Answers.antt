use Rattle.wasmprinter_flat.proofs.vector_immediates.write_hex_word.Goals as goal

pub returns : goal.returns
returns g c = g.met.O.Output.text_then _ _ _ _ _ _ c.write_str.ensures c.write_hex_digits.ensures
