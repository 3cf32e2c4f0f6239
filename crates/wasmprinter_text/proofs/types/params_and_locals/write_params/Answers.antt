use Rattle.std.specs.Prelude.{◌≡◌, [], codes, length}
use Rattle.std.proofs.Common.{sym, ◌∙◌, ap, arith, ⊎_elim}
use Rattle.wasmprinter_spec.specs.Layout.Types.{parameters_of}
use Rattle.wasmprinter_custom.specs.Shown.{names_of_identifiers}
use Rattle.wasmprinter_ops.specs.ValTypes.{val_types_view}
use Rattle.wasmprinter_text.proofs.Counting.{none-left}
use Rattle.wasmprinter_text.proofs.Walks.{walk-groups, walk-next, walk-none}
use Rattle.wasmprinter_text.proofs.types.params_and_locals.write_params.Goals as goal

pub returns-then-has_failed : goal.returns-then-has_failed
returns-then-has_failed g c =
    let names = names_of_identifiers c.args.identifiers.now in
    let named = parameters_of names c.args.owner in
    rw (← walk-groups names (codes "param") named 0 (val_types_view c.args.types.now))
    (c.loop-number.invariant.rest _ (g.met.O.Output.pieces_skipped _ _ (sym c.has_failed.ensures ∙ c.if-has_failed.true)))

pub loop-number-preserved : goal.loop-number-preserved
loop-number-preserved g c =
    let names = names_of_identifiers c.args.identifiers.now in
    let named = parameters_of names c.args.owner in
    let step = walk-next names (codes "param") named c.loop-number.before c.loop-number.number-iterator.a.start _ _ _ c.in-Some.ensures.steps.1 in
    let (ends, (some, is, follows)) = c.in-Some.ensures.steps.0 in
    let wrote = rw is at c.write_variable-before.ensures.pieces in
    record {
      rest = rw (c.write_variable-before.ensures.next, is, follows) (λ t w. c.loop-number.invariant.rest t (rw step (g.met.O.Output.pieces_then _ _ _ _ _ wrote w)));
      count = omega (arith, c.loop-number.invariant.count, ap length c.in-Some.ensures.steps.1, ends, follows);
      next = ((tt, tt), tt);
    }

pub returns : goal.returns
returns g c =
    let names = names_of_identifiers c.args.identifiers.now in
    let named = parameters_of names c.args.owner in
    let items = c.loop-number.number-iterator.b in
    let none : items ≡ [] =
    ⊎_elim (λ (_, (ends, (none, stays))). none-left _ _ items c.loop-number.invariant.count none) (λ (_, (none, stays)). none)
    c.in-None.ensures.steps in
    let last = walk-none names (codes "param") named c.loop-number.before c.loop-number.number-iterator.a.start items none in
    rw (← walk-groups names (codes "param") named 0 (val_types_view c.args.types.now))
    (c.loop-number.invariant.rest _ (rw last c.close_variables.ensures))
