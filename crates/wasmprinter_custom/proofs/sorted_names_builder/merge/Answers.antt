use Rattle.std.proofs.Common.{◌≡◌, ◌∷◌, ◌++◌, length, sym, ap, ◌∙◌, subst, arith}
use Rattle.std.proofs.lemmas.List.{append-nil}
use Rattle.std.specs.Option.{option_to_list}
use Rattle.std.specs.Vec.Iter.{into_iter_items}
use Rattle.wasmprinter_custom.specs.Lookups.{stored_at}
use Rattle.wasmprinter_custom.proofs.Merging.{Waiting, waiting_late, waiting_next, merged}
use Rattle.wasmprinter_custom.proofs.sorted_names_builder.merge.Goals as goal

pub loop-earlier-preserved : goal.loop-earlier-preserved
loop-earlier-preserved c =
    let taken = c.in-Some-take_before.ensures in
    let rest = into_iter_items c.next.new.self in
    subst (λ all. Waiting c.args.list.items c.args.tree.entries all (c.in-Some.entry ∷ rest) c.next-next-in-Some-take_before.result c.next-next-in-Some-take_before.new.self)
    (sym c.in_ok-push.ensures.items)
    (waiting_late c.args.list.items c.args.tree.entries c.loop-earlier.all.items rest c.loop-earlier.late c.next-next-in-Some-take_before.new.self
    c.in-Some.entry c.in-Some-take_before.earlier c.loop-earlier.next c.next-next-in-Some-take_before.result taken.0 taken.2 c.next-next-in-Some-take_before.ensures.steps c.loop-earlier.invariant)

pub loop-entry-preserved : goal.loop-entry-preserved
loop-entry-preserved c =
    let rest = into_iter_items c.next.new.self in
    record {
      len = omega (arith, ap length c.in-Some.ensures.steps.0);
      waiting =
          subst (λ next. Waiting c.args.list.items c.args.tree.entries c.push-in-loop-entry.new.self.items rest next c.loop-earlier.late) (sym c.in_default.ensures.0)
          (subst (λ all. Waiting c.args.list.items c.args.tree.entries all rest c.loop-earlier.next c.loop-earlier.late) (sym c.in_ok-push-2.ensures.items)
          (waiting_next c.args.list.items c.args.tree.entries c.loop-earlier.all.items rest c.loop-earlier.late c.in-Some.entry c.loop-earlier.next c.in_default.ensures.1 c.loop-earlier.invariant));
    }

pub returns-clause-all : goal.returns-clause-all
returns-clause-all c =
    let before = c.loop-entry.all.items in
    let left = option_to_list c.loop-entry.next ++ c.loop-entry.late in
    let whole : c.loop-next.all.items ≡ before ++ left =
    sym (append-nil c.loop-next.all.items) ∙ ap (λ es. c.loop-next.all.items ++ es) (sym (c.loop-next.invariant.ended c.in_default-next.is))
    ∙ ap (λ o. c.loop-next.all.items ++ (option_to_list o ++ c.loop-next.late)) (sym c.in_default-next.is) ∙ c.loop-next.invariant.same in
    λ q.
    ap (λ es. stored_at es q) whole
    ∙ merged c.args.list.items c.args.tree.entries before (into_iter_items c.loop-entry.entry-iterator) left _
    c.loop-entry.invariant.len c.in-None.ensures.steps.0 c.loop-entry.invariant.waiting.merging q
