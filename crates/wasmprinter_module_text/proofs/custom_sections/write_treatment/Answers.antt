use Rattle.std.specs.Prelude.{◌≡◌, [], ◌∷◌}
use Rattle.std.proofs.Common.{ap}
use Rattle.wasmprinter_spec.specs.Placed.{CustomEntry}
use Rattle.wasmprinter_module_text.proofs.custom_sections.write_treatment.Goals as goal

pub returns-in-Silent : goal.returns-in-Silent
returns-in-Silent g c = λ a claim w. rw c.in-Silent.is (g.met.O.Output.part_of _ _ _ w)

pub returns-in-Producers : goal.returns-in-Producers
returns-in-Producers g c = λ a claim w.
    let law = g.met.O.Output in
    let same : c.entry.inside.section ≡ c.args.entry.now.section = ap (λ (e : CustomEntry). e.section) c.entry.view_is in
    rw c.in-Producers.is (law.part_of _ _ _ (law.piece_then _ _ _ claim _ w (rw (c.place-place.ensures, same) at c.write_producers.ensures)))

pub returns-in-Dylink : goal.returns-in-Dylink
returns-in-Dylink g c = λ a claim w.
    let law = g.met.O.Output in
    let same : c.entry.inside.section ≡ c.args.entry.now.section = ap (λ (e : CustomEntry). e.section) c.entry.view_is in
    rw c.in-Dylink.is (law.part_of _ _ _ (law.piece_then _ _ _ claim _ w (rw (c.place-place.ensures, same) at c.write_dylink.ensures)))

pub returns-in-Refused : goal.returns-in-Refused
returns-in-Refused g c = λ a claim w.
    rw c.in-Refused.is (g.met.O.Output.stop_of _ _ _ (claim ∷ []) [] _ w c.refuse_subsection.ensures)

pub returns-in-Raw : goal.returns-in-Raw
returns-in-Raw g c = λ a claim w.
    let law = g.met.O.Output in
    rw c.in-Raw.is (law.part_of _ _ _ (law.piece_then _ _ _ claim _ w c.write_raw.ensures))

pub returns : goal.returns
returns g c = λ a claim w.
    let law = g.met.O.Output in
    rw c.in-Malformed.is (law.part_of _ _ _ (law.piece_then _ _ _ claim _ w c.write_malformed.ensures))
