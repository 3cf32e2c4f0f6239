use Rattle.std.specs.Prelude.{◌≡◌, [], length}
use Rattle.std.proofs.Common.{ap, arith, ⊎_elim}
use Rattle.wasmprinter_custom.specs.Shown.{names_of_identifiers}
use Rattle.wasmprinter_text.specs.Items.{owned_field}
use Rattle.wasmprinter_text.proofs.Composites.{fields-none, fields-next}
use Rattle.wasmprinter_text.proofs.Counting.{none-left}
use Rattle.wasmprinter_text.proofs.types.definitions.write_fields.Goals as goal

pub loop-number-preserved : goal.loop-number-preserved
loop-number-preserved g c =
    let field = owned_field (names_of_identifiers c.args.identifiers.now) c.args.owner in
    let step = fields-next field c.loop-number.number-iterator.a.start _ _ _ c.in-Some.ensures.steps.1 in
    let (ends, (some, is, follows)) = c.in-Some.ensures.steps.0 in
    let wrote = rw is at c.write_field_group.ensures in
    record {
      rest = rw follows (λ t w. c.loop-number.invariant.rest t (rw step (g.met.O.Output.pieces_then _ _ _ _ _ wrote w)));
      count = omega (arith, c.loop-number.invariant.count, ap length c.in-Some.ensures.steps.1, ends, follows);
      next = ((tt, tt), tt);
    }

pub returns : goal.returns
returns g c =
    let field = owned_field (names_of_identifiers c.args.identifiers.now) c.args.owner in
    let items = c.loop-number.number-iterator.b in
    let none : items ≡ [] =
    ⊎_elim (λ (_, (ends, (none, stays))). none-left _ _ items c.loop-number.invariant.count none) (λ (_, (none, stays)). none)
    c.in-None.ensures.steps in
    c.loop-number.invariant.rest _ (rw (fields-none field c.loop-number.number-iterator.a.start items none) (g.met.O.Output.no_piece _))
