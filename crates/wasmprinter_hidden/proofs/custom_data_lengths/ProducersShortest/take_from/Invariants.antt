-- The fields before those that the iterator has were counted, and their bytes were taken away, if they have values.
use Rattle.wasmprinter_hidden.specs.HiddenData.{has_values}
use Rattle.wasmprinter_hidden.specs.Lengths.{field_len}
use Rattle.wasmprinter_hidden.proofs.Kept.{LeftIs, CountIs}
use Rattle.wasmprinter_hidden.proofs.custom_data_lengths.ProducersShortest.take_from.Given as goal

abbrev pub invariant-loop-field : goal.invariant-loop-field
invariant-loop-field l = record {
  counted : CountIs has_values l.self l.field-iterator l.count;
  left : LeftIs has_values field_len l.self l.fn.excess.bytes l.field-iterator l.excess.bytes;
}
