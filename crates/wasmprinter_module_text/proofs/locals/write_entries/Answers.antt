use Rattle.std.proofs.Common.{◌≡◌, ◌∙◌, sym, ap, length, replicate, arith}
use Rattle.wasmprinter_flat.specs.OpenLabels.LabelState.{names_of}
use Rattle.wasmprinter_module_text.specs.LocalWalk.{after_all}
use Rattle.wasmprinter_module_text.proofs.LocalLines.{entries-next, entries-none, after_times-number}
use Rattle.wasmprinter_module_text.proofs.locals.write_entries.Goals as goal

pub loop-entry-init : goal.loop-entry-init
loop-entry-init g c =
    let same : c.into_iter-entry-iterator.result ≡ c.args.locals.now = c.into_iter-entry-iterator.ensures.into_iter_gives ∙ c.iter-entry-items.ensures in
    rw (same, c.from.ensures) (record {
      rest = λ t w. w;
      number = omega (arith, c.if-prove.false, c.len.ensures, c.ranges.parameters);
    })

pub write_entry-position-requires : goal.write_entry-position-requires
write_entry-position-requires g c =
    omega (arith, c.loop-entry.invariant.number, ap length c.in-Some.ensures.steps, c.if-prove-2.false, c.count.ensures)

pub returns-then-has_failed : goal.returns-then-has_failed
returns-then-has_failed g c =
    let step = entries-next (names_of c.args.scope.now.labels) c.args.function c.loop-entry.position _ _ _ c.in-Some.ensures.steps in
    c.loop-entry.invariant.rest _ (rw step (g.met.O.Output.pieces_then _ _ _ _ _ c.write_entry-position.ensures.pieces
    (g.met.O.Output.pieces_skipped _ _ (sym c.has_failed.ensures ∙ c.if-has_failed.true))))

pub loop-entry-preserved : goal.loop-entry-preserved
loop-entry-preserved g c =
    let names = names_of c.args.scope.now.labels in
    let entry = c.in-Some.entry.value in
    let step = entries-next names c.args.function c.loop-entry.position _ _ _ c.in-Some.ensures.steps in
    let after : c.write_entry-position.result ≡ after_all (names.locals c.args.function) c.loop-entry.position (replicate entry.count entry.type) =
    c.write_entry-position.ensures.after (sym c.has_failed.ensures ∙ c.if-has_failed.false) in
    let number = ap (λ x. x.number) after ∙ after_times-number (names.locals c.args.function) c.loop-entry.position entry.count entry.type in
    record {
      rest = rw after (λ t w. c.loop-entry.invariant.rest t (rw step (g.met.O.Output.pieces_then _ _ _ _ _ c.write_entry-position.ensures.pieces w)));
      number = omega (arith, number, c.loop-entry.invariant.number, ap length c.in-Some.ensures.steps, c.if-prove-2.false, c.count.ensures);
    }

pub returns : goal.returns
returns g c =
    let none = entries-none (names_of c.args.scope.now.labels) c.args.function c.loop-entry.position _ c.in-None.ensures.steps.0 in
    c.loop-entry.invariant.rest _ (rw none c.close_variables.ensures)
