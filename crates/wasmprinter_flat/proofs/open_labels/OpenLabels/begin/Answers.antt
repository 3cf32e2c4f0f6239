use Rattle.std.proofs.Common.{rules, of_calls, refl, sym, subst}
use Rattle.std.specs.Prelude.{nat_lt}
use Rattle.std.proofs.lemmas.Fn.{always_returns_same}
use Rattle.wasmprinter_flat.specs.OpenLabels.Stack.{Stack}
use Rattle.wasmprinter_flat.specs.OpenLabels.Inside.{IsKept}
use Rattle.wasmprinter_flat.proofs.OpenLabels.Starts.{is_partitioned, cursor_begun, kept_begun}
use Rattle.wasmprinter_flat.proofs.open_labels.OpenLabels.begin.Goals as goal

pub invariant_of-self : goal.invariant_of-self
invariant_of-self c =
    let x = c.self.inside in
    let i = c.self.invariant in
    let point = c.partition_point-self-inside.ensures.partitioned (λ l. nat_lt l.label.function c.args.function) (always_returns_same _ _ _ (λ a r f k. search (rules, of_calls)))
    (is_partitioned x.labels.items c.deref.result.now _ c.args.function c.deref.ensures.value i.lists i.ascend) in
    subst (λ (t : Stack). IsKept x.identifiers.names.now x.labels.items c.partition_point-self-inside.result c.args.function 0 0 t) (sym c.clear.ensures)
    (kept_begun x.identifiers.names.now x.labels.items x.next x.function x.opened x.depth x.named.limit c.partition_point-self-inside.result c.args.function x.named i
    (cursor_begun c.args.function c.partition_point-self-inside.result x.labels.items c.deref.result.now _ c.deref.ensures.value i.lists c.partition_point-self-inside.ensures.bound point) refl)
