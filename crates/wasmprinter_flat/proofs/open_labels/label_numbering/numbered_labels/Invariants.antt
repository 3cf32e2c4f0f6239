use Rattle.std.proofs.Common.{◌≡◌, map, take}
use Rattle.wasmprinter_flat.specs.OpenLabels.Numbers.{IsNumbering}
use Rattle.wasmprinter_flat.proofs.open_labels.label_numbering.numbered_labels.Given as goal

abbrev pub invariant-loop-label : goal.invariant-loop-label
invariant-loop-label l = record {
  labels : map (λ x. x.label) l.numbered.items ≡ take l.label-index l.labels;
  numbers : IsNumbering l.numbers l.numbered.items;
}
