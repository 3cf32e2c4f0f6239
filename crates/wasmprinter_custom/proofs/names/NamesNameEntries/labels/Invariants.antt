use Rattle.std.proofs.Common.{◌≡◌, ◌++◌, map, drop}
use Rattle.wasmprinter_custom.specs.Views.{item_view}
use Rattle.wasmprinter_custom.specs.Labels.{labels_in}
use Rattle.wasmprinter_custom.specs.LabelViews.{label_view}
use Rattle.wasmprinter_custom.proofs.names.NamesNameEntries.labels.Given as goal

abbrev pub invariant-loop-key : goal.invariant-loop-key
invariant-loop-key l = map label_view l.labels.items ++ labels_in (map item_view (drop l.key-index l.key-items)) ≡ labels_in l.self
