use Rattle.std.proofs.Common.{◌≡◌, ◌-◌, ◌<◌, ◌≤◌, sym, ap, ◌∙◌, arith, replicate}
use Rattle.wasmprinter_flat.specs.OpenLabels.LabelState.{names_of}
use Rattle.wasmprinter_module_text.specs.LocalWalk.{after_all, locals_parts}
use Rattle.wasmprinter_module_text.proofs.LocalLines.{times-next, times-none, after_times-next, after_times-none}
use Rattle.wasmprinter_module_text.proofs.locals.write_entry.Goals as goal

pub loop-init : goal.loop-init
loop-init g c =
    let names = names_of c.args.scope.now.labels in
    let entry = c.args.entry.now.value in
    let all : entry.count - 0 ≡ entry.count = omega arith in
    record {
      rest = λ t w. rw (ap (λ n. locals_parts names c.args.function c.args.start (replicate n entry.type)) all) at w;
      after = ap (λ n. after_all (names.locals c.args.function) c.args.start (replicate n entry.type)) all;
      number = omega arith;
    }

pub write_local-position-requires : goal.write_local-position-requires
write_local-position-requires g c = omega (arith, c.loop.invariant.number, c.loop-test.true, c.count-end.ensures, c.requires)

pub returns-then-has_failed-clause-pieces : goal.returns-then-has_failed-clause-pieces
returns-then-has_failed-clause-pieces g c =
    c.loop.invariant.rest _ (g.met.O.Output.pieces_skipped _ _ (sym c.has_failed.ensures ∙ c.if-has_failed.true))

pub loop-preserved : goal.loop-preserved
loop-preserved g c =
    let names = names_of c.args.scope.now.labels in
    let entry = c.args.entry.now.value in
    let left : c.loop.counter < entry.count = omega (arith, c.loop-test.true, c.count-end.ensures) in
    let step = times-next names c.args.function c.loop.position entry.count c.loop.counter entry.type left in
    let after_step = after_times-next (names.locals c.args.function) c.loop.position entry.count c.loop.counter entry.type left in
    let wrote = rw c.val_type.ensures at c.write_local-position.ensures.pieces in
    rw c.write_local-position.ensures.after (record {
      rest = λ t w. c.loop.invariant.rest t (rw step (g.met.O.Output.pieces_then _ _ _ _ _ wrote w));
      after = sym after_step ∙ c.loop.invariant.after;
      number = omega (arith, c.loop.invariant.number);
    })

pub returns-clause-pieces : goal.returns-clause-pieces
returns-clause-pieces g c =
    let entry = c.args.entry.now.value in
    let past : entry.count ≤ c.loop.counter = omega (arith, c.loop-test.false, c.count-end.ensures) in
    let none = times-none (names_of c.args.scope.now.labels) c.args.function c.loop.position entry.count c.loop.counter entry.type past in
    c.loop.invariant.rest _ (rw none (g.met.O.Output.no_piece _))

pub returns-clause-after : goal.returns-clause-after
returns-clause-after g c h =
    let entry = c.args.entry.now.value in
    let past : entry.count ≤ c.loop.counter = omega (arith, c.loop-test.false, c.count-end.ensures) in
    sym (after_times-none ((names_of c.args.scope.now.labels).locals c.args.function) c.loop.position entry.count c.loop.counter entry.type past)
    ∙ c.loop.invariant.after
