use Rattle.std.specs.Prelude.{length}
use Rattle.std.proofs.Common.{ap, arith, sym, ◌∙◌}
use Rattle.wasmprinter_flat.specs.OpenLabels.LabelState.{names_of}
use Rattle.wasmprinter_module_text.specs.TypeLines.{listed_pieces}
use Rattle.wasmprinter_module_text.proofs.TypeFields.{types-none, types-next}
use Rattle.wasmprinter_module_text.proofs.types.write_types.Goals as goal

pub loop-sub_type-preserved : goal.loop-sub_type-preserved
loop-sub_type-preserved g c =
    let listed = listed_pieces (names_of c.args.scope.now.labels) c.args.group.now.value.explicit c.args.group.now.place in
    let step = types-next listed c.loop-sub_type.number _ _ _ c.in-Some.ensures.steps in
    record {
      rest = λ t w. c.loop-sub_type.invariant.rest t (rw step (g.met.O.Output.pieces_then _ _ _ _ _ c.write_listed.ensures w));
      count = omega (arith, c.loop-sub_type.invariant.count, ap length c.in-Some.ensures.steps);
    }

pub returns-then-has_failed : goal.returns-then-has_failed
returns-then-has_failed g c = c.loop-sub_type.invariant.rest _ (g.met.O.Output.pieces_skipped _ _ (sym c.has_failed.ensures ∙ c.if-has_failed.true))

pub returns : goal.returns
returns g c =
    let listed = listed_pieces (names_of c.args.scope.now.labels) c.args.group.now.value.explicit c.args.group.now.place in
    let none = types-none listed c.loop-sub_type.number _ c.in-None.ensures.steps.0 in
    c.loop-sub_type.invariant.rest _ (rw none (g.met.O.Output.no_piece _))
