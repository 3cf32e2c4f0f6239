use Rattle.std.specs.Prelude.{◌≡◌, true, false}
use Rattle.std.proofs.Common.{ap}
use Rattle.wasmprinter_spec.specs.Placed.{CustomEntry}
use Rattle.wasmprinter_module_text.proofs.custom_sections.write_custom.Goals as goal

pub returns-then-write_claim : goal.returns-then-write_claim
returns-then-write_claim g c =
    let same : c.entry.inside.section ≡ c.args.entry.now.section = ap (λ (e : CustomEntry). e.section) c.entry.view_is in
    (true, g.met.O.Output.part_of _ _ _ (rw (c.if-write_claim.true, same) at c.write_claim.ensures))

pub returns : goal.returns
returns g c =
    let same : c.entry.inside.section ≡ c.args.entry.now.section = ap (λ (e : CustomEntry). e.section) c.entry.view_is in
    let claim = rw (c.if-write_claim.false, same) at c.write_claim.ensures in
    (false, rw (c.treatment_of.ensures, same) at (c.write_treatment.ensures _ _ claim))
