use Rattle.std.proofs.Common.{◌≡◌, ◌-◌, suc, sym, subst, arith}
use Rattle.wasmprinter_flat.specs.OpenLabels.Stack.{Stack}
use Rattle.wasmprinter_flat.specs.OpenLabels.Inside.{IsKept}
use Rattle.wasmprinter_flat.proofs.OpenLabels.Steps.{kept_closed}
use Rattle.wasmprinter_flat.proofs.open_labels.OpenLabels.close.Goals as goal

pub invariant_of-self : goal.invariant_of-self
invariant_of-self c =
    let x = c.self.inside in
    let is : x.depth ≡ suc (x.depth - 1) = omega (arith, c.if-self-gt0.true) in
    subst (λ (t : Stack). IsKept x.identifiers.names.now x.labels.items x.next x.function x.opened (x.depth - 1) t) (sym c.close.ensures.closed)
    (kept_closed x.identifiers.names.now x.labels.items x.next x.function x.opened (x.depth - 1) x.depth x.named c.self.invariant is c.close.ensures.descend)
