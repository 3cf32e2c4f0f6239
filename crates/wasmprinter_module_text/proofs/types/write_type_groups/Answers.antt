use Rattle.std.specs.Prelude.{◌≡◌, length}
use Rattle.std.proofs.Common.{ap, arith, ◌∙◌, sym}
use Rattle.wasmprinter_flat.specs.OpenLabels.LabelState.{names_of}
use Rattle.wasmprinter_module_text.proofs.TypeFields.{groups-next, groups-none, after-next}
use Rattle.wasmprinter_module_text.proofs.types.write_type_groups.Goals as goal

pub loop-group-preserved : goal.loop-group-preserved
loop-group-preserved g c =
    let item = c.group-item.result in
    let step = groups-next (names_of c.args.scope.now.labels) c.loop-group.number c.loop-group.group-index c.args.groups.now item item c.loop-group-test.true c.group-item.is in
    let len : c.from-number.result ≡ length c.group-item.result.value.types = c.from-number.ensures ∙ c.len.ensures ∙ ap (λ ts. length ts) c.types.ensures in
    record {
      rest = rw len (λ t w. c.loop-group.invariant.rest t (rw step (g.met.O.Output.pieces_then _ _ _ _ _ c.write_group.ensures w)));
      count = omega (arith, len, c.loop-group.invariant.count, after-next c.loop-group.group-index c.args.groups.now item item c.loop-group-test.true c.group-item.is);
    }

pub returns-then-has_failed : goal.returns-then-has_failed
returns-then-has_failed g c = c.loop-group.invariant.rest _ (g.met.O.Output.pieces_skipped _ _ (sym c.has_failed.ensures ∙ c.if-has_failed.true))

pub returns : goal.returns
returns g c =
    let none = groups-none (names_of c.args.scope.now.labels) c.loop-group.number c.loop-group.group-index c.args.groups.now c.loop-group-test.false in
    c.loop-group.invariant.rest _ (rw none (g.met.O.Output.no_piece _))
