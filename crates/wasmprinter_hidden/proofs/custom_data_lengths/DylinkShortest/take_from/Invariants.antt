-- The bytes of the subsections before those that the iterator has were taken away, if a text has lines for them.
use Rattle.wasmprinter_hidden.specs.HiddenData.{has_lines}
use Rattle.wasmprinter_hidden.specs.Lengths.{dylink_subsection_len}
use Rattle.wasmprinter_hidden.proofs.Kept.{LeftIs}
use Rattle.wasmprinter_hidden.proofs.custom_data_lengths.DylinkShortest.take_from.Given as goal

abbrev pub invariant-loop-subsection : goal.invariant-loop-subsection
invariant-loop-subsection l =
    LeftIs (λ s. has_lines s.value) (λ s. dylink_subsection_len s.value) l.self l.fn.excess.bytes l.subsection-iterator l.excess.bytes
