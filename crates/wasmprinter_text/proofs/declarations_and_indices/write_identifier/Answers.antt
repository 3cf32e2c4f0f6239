use Rattle.std.proofs.Common.{ap, ◌∙◌}
use Rattle.wasmprinter_spec.specs.Quoted.{all_id_chars}
use Rattle.wasmprinter_text.proofs.SynthesizedIdentifiers.{word-runs}
use Rattle.wasmprinter_text.proofs.declarations_and_indices.write_identifier.Goals as goal

pub returns-in-Synthesized : goal.returns-in-Synthesized
returns-in-Synthesized g c =
    rw c.in-Synthesized.is (rw c.word.ensures at (c.write_synthesized_identifier.ensures.pieces (ap all_id_chars c.word.ensures ∙ word-runs c.in-Synthesized.space)))
