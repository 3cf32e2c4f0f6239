use Rattle.std.proofs.Common.{sym, ◌∙◌}
use Rattle.wasmprinter_flat.proofs.OneType.{only-first, only-none}
use Rattle.wasmprinter_flat.proofs.val_and_ref_type_immediates.only_type.Goals as goal

pub returns-then-len-eq1 : goal.returns-then-len-eq1
returns-then-len-eq1 c = only-first _ _ _ (sym c.len.ensures ∙ c.if-len-eq1.true) (rw c.iter.ensures at c.next.ensures.steps)

pub returns-else-len-eq1 : goal.returns-else-len-eq1
returns-else-len-eq1 c = only-none _ (λ e. c.if-len-eq1.false (c.len.ensures ∙ e))
