use Rattle.std.proofs.Common.{◌≡◌, arith, length}
use Rattle.std.proofs.lemmas.Grind.{common_steps}
use Rattle.wasmprinter_flat.proofs.OpenLabels.Numbering.{numbering_more, numbered}
use Rattle.wasmprinter_flat.proofs.open_labels.label_numbering.numbered_labels.Goals as goal

pub loop-label-preserved : goal.loop-label-preserved
loop-label-preserved c = let size : c.len.result ≡ length c.loop-label.numbered.items = omega (arith, c.len.ensures) in record {
  labels = grind (arith, common_steps);
  numbers =
      numbering_more c.loop-label.numbers c.number.new.numbers c.loop-label.numbered.items c.push.new.self.items _ c.len.result c.in_ok-push.ensures.items size
      c.loop-label.invariant.numbers c.in_ok-name_number.ensures.number c.in_ok-name_number.ensures.known;
}

pub returns-clause-numbers : goal.returns-clause-numbers
returns-clause-numbers c = numbered c.loop-label.numbers c.loop-label.numbered.items c.loop-label.invariant.numbers
