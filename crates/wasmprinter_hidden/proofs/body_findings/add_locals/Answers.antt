use Rattle.std.proofs.Common.{◌≡◌, ℕ, ◌∷◌, ap, sym, ◌∙◌, arith}
use Rattle.wasmprinter_hidden.specs.Hidden.{shown_group_len}
use Rattle.wasmprinter_hidden.specs.declared.finding.Part.TheVariants.{LocalGroup}
use Rattle.wasmprinter_hidden.specs.OpenParts.{lengths_of_groups}
use Rattle.wasmprinter_hidden.proofs.OpenParts.{left_more, left_none}
use Rattle.wasmprinter_hidden.proofs.body_findings.add_locals.Goals as goal

pub loop-entry-preserved : goal.loop-entry-preserved
loop-entry-preserved c =
    let entry = c.in-Some.entry in
    let step : lengths_of_groups c.loop-entry.entry-iterator ≡ record { place = c.place-place.result; value = shown_group_len entry.value } ∷ lengths_of_groups c.next.new.self =
    ap lengths_of_groups c.in-Some.ensures.steps ∙ ap (λ (p : ℕ). record { place = p; value = shown_group_len entry.value } ∷ lengths_of_groups c.next.new.self) (sym c.place-place.ensures) in
    left_more LocalGroup c.args.findings.now c.args.first (lengths_of_groups c.args.locals.now) c.loop-entry.findings c.close.new.self c.loop-entry.last c.group_part-last.result
    c.place-place.result (shown_group_len entry.value) (lengths_of_groups c.loop-entry.entry-iterator) (lengths_of_groups c.next.new.self)
    (omega arith) c.in_ok-close.ensures c.group_part-last.ensures step c.loop-entry.invariant

pub returns : goal.returns
returns c =
    left_none LocalGroup c.args.findings.now c.args.first (lengths_of_groups c.args.locals.now) c.loop-entry.findings c.loop-entry.last (lengths_of_groups c.loop-entry.entry-iterator)
    (ap lengths_of_groups c.in-None.ensures.steps.0) c.loop-entry.invariant
