use Rattle.wasmprinter_hidden.specs.HiddenData.{has_values}
use Rattle.wasmprinter_hidden.specs.Lengths.{field_len}
use Rattle.wasmprinter_hidden.proofs.Kept.{all_taken}
use Rattle.wasmprinter_hidden.proofs.custom_data_lengths.ProducersShortest.take_from.Goals as goal

pub returns : goal.returns
returns c =
    all_taken has_values field_len c.args.self.now c.args.excess.now.bytes c.loop-field.field-iterator c.loop-field.excess.bytes c.loop-field.count _
    c.in-None.ensures.steps.0 c.take_from-2.ensures c.loop-field.invariant.left c.loop-field.invariant.counted
