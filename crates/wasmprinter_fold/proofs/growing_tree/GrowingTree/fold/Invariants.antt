use Rattle.wasmprinter_spec.specs.Folding.Arities.{signatures_within}
use Rattle.wasmprinter_flat.specs.Settings.{setting_with_names}
use Rattle.wasmprinter_fold.proofs.Walks.{Progress}
use Rattle.wasmprinter_fold.proofs.growing_tree.GrowingTree.fold.Given as goal

abbrev pub invariant-loop-item : goal.invariant-loop-item
invariant-loop-item g l =
    Progress l.fn.self.texts.color (setting_with_names g.S.Signatures.signature_at l.setting l.fn.labels) (signatures_within l.callees l.own)
    l.fn.labels l.fn.hints l.expression.items l.item-iterator l.hints l.labels l.self
