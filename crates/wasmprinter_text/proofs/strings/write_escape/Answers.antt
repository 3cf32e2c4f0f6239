use Rattle.std.proofs.Common.{◌∙◌}
use Rattle.wasmprinter_spec.specs.Quoted.{char_text}
use Rattle.wasmprinter_text.proofs.strings.write_escape.Goals as goal

pub returns : goal.returns
unfolding char_text
returns g c =
    let law = g.met.O.Output in
    let digits = rw (c.from-2.ensures ∙ c.from.ensures) at c.write_hexadecimal.ensures in
    rw c.requires (law.text_then _ _ _ _ _ _ c.write_str.ensures (law.text_then _ _ _ _ _ _ digits c.write_str-2.ensures))
