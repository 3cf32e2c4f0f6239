use Rattle.std.proofs.Common.{◌≡◌, get_or, sym, subst, ◌∙◌, codes}
use Rattle.wasmprinter_spec.specs.Placed.{CustomEntry, custom_entry}
use Rattle.wasmprinter_decoder.specs.Places.{after_view}
use Rattle.wasmprinter_fold.proofs.Steps.{one_named}
use Rattle.wasmprinter_fold.proofs.fold_refusals.hint_checks.has_hints.Goals as goal

pub returns-then-is_hint_section : goal.returns-then-is_hint_section
returns-then-is_hint_section c =
    let entry : CustomEntry = custom_entry (after_view c.entry.inside.after) c.entry.inside.section in
    let found : entry ≡ get_or c.args.customs.now c.loop-entry.entry-index entry =
    subst (λ (e : CustomEntry). e ≡ get_or c.args.customs.now c.loop-entry.entry-index e) (sym c.entry.view_is) c.entry-item.is in
    let named = rw c.name.ensures at c.is_hint_section.ensures in
    sym (one_named (codes "metadata.code.branch_hint") c.args.customs.now c.loop-entry.entry-index entry c.loop-entry-test.true found (sym named ∙ c.if-is_hint_section.true))
    ∙ c.loop-entry.invariant
