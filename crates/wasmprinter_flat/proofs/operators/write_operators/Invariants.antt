use Rattle.wasmprinter_flat.specs.Settings.{setting_with_names}
use Rattle.wasmprinter_flat.proofs.Walking.{Progress}
use Rattle.wasmprinter_flat.proofs.operators.write_operators.Given as goal

abbrev pub invariant-loop-item : goal.invariant-loop-item
invariant-loop-item g l =
    Progress g.O.Output.wrote l.fn.out l.out (setting_with_names g.S.Signatures.signature_at l.setting l.fn.labels) l.fn.labels l.fn.hints l.expression.items l.item-iterator l.hints l.first l.labels
