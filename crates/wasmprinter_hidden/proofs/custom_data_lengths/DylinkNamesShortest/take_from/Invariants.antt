-- The names before those that the iterator has were counted, and their bytes were taken away.
use Rattle.std.proofs.Common.{true}
use Rattle.wasmprinter_hidden.specs.Lengths.{bytes_len}
use Rattle.wasmprinter_hidden.proofs.Kept.{LeftIs, CountIs}
use Rattle.wasmprinter_hidden.proofs.custom_data_lengths.DylinkNamesShortest.take_from.Given as goal

abbrev pub invariant-loop-name : goal.invariant-loop-name
invariant-loop-name l = record {
  counted : CountIs (λ x. true) l.self l.name-iterator l.count;
  left : LeftIs (λ x. true) bytes_len l.self l.fn.excess.bytes l.name-iterator l.excess.bytes;
}
