use Rattle.std.proofs.Common.{ne_eqb, arith}
use Rattle.wasmprinter_spec.specs.Float.{canonical_payload}
use Rattle.wasmprinter_text.specs.Formats.{width_of}
use Rattle.wasmprinter_text.proofs.floats.write_special.Goals as goal

pub returns-else-fraction-canonical_payload : goal.returns-else-fraction-canonical_payload
returns-else-fraction-canonical_payload g c =
    rw (ne_eqb c.args.fraction 0 (λ e. omega arith), ne_eqb c.args.fraction (canonical_payload (width_of c.args.format)) (λ e. omega (arith, c.canonical_payload.ensures)))
    (g.met.O.Output.text_then _ _ _ _ _ _ c.write_str-else-fraction-canonical_payload.ensures c.write_hexadecimal.ensures)
