use Rattle.std.proofs.Common.{◌-◌, ◌<◌, [], false, true, refl, sym, ap, ◌∙◌, arith}
use Rattle.std.specs.Prelude.{option_map}
use Rattle.wasmprinter_spec.specs.Labels.{Label, Named}
use Rattle.wasmprinter_custom.specs.Shown.{identifier_view}
use Rattle.wasmprinter_flat.specs.OpenLabels.Found.{ByName, found_among}
use Rattle.wasmprinter_flat.specs.OpenLabels.LabelState.{LabelState}
use Rattle.wasmprinter_flat.specs.OpenLabels.Stack.{labels_from}
use Rattle.wasmprinter_flat.proofs.OpenLabels.Targets.{labels_length, found_own, found_nothing, unnamed_found}
use Rattle.wasmprinter_flat.proofs.OpenLabels.Steps.{found_other, found_name}
use Rattle.wasmprinter_flat.proofs.open_labels.OpenLabels.meaning.Goals as goal

pub returns-then-label-self : goal.returns-then-label-self
returns-then-label-self c =
    let x = c.self.inside in
    let size = labels_length x.identifiers.synthesizes x.named.blocks x.depth in
    sym (found_nothing c.args.label (labels_from x.identifiers.synthesizes x.named.blocks x.depth) (omega (arith, size, c.if-label-self.true)))
    ∙ ap (λ (s : LabelState). found_among [] s.labels c.args.label) c.self.view_is

pub returns-then-label-self-2 : goal.returns-then-label-self-2
returns-then-label-self-2 c =
    let x = c.self.inside in
    let size = labels_length x.identifiers.synthesizes x.named.blocks x.depth in
    sym (found_own c.args.label (labels_from x.identifiers.synthesizes x.named.blocks x.depth) (size ∙ sym c.if-label-self-2.true))
    ∙ ap (λ (s : LabelState). found_among [] s.labels c.args.label) c.self.view_is

pub returns-in-Visible : goal.returns-in-Visible
returns-in-Visible c =
    let x = c.self.inside in
    let lt : c.args.label < x.depth = omega (arith, c.if-label-self.false, c.if-label-self-2.false) in
    let (block, stands, named) = c.in-Visible.ensures.name in
    let at = x.depth - 1 - c.args.label in
    ap (λ (n : Named). ByName n) (sym named)
    ∙ (sym (found_name _ _ _ _ _ x.depth x.named c.self.invariant x.identifiers.synthesizes c.args.label at block false stands
    c.find.ensures.descend lt refl)
    ∙ ap (λ (s : LabelState). found_among [] s.labels c.args.label) c.self.view_is)

pub returns-in-Hidden : goal.returns-in-Hidden
returns-in-Hidden c =
    let x = c.self.inside in
    let lt : c.args.label < x.depth = omega (arith, c.if-label-self.false, c.if-label-self-2.false) in
    let at = c.in-Hidden.ensures.name in
    sym (found_name _ _ _ _ _ x.depth x.named c.self.invariant x.identifiers.synthesizes c.args.label (x.depth - 1 - c.args.label) at.0 true at.1 c.find.ensures.descend lt refl)
    ∙ ap (λ (s : LabelState). found_among [] s.labels c.args.label) c.self.view_is

pub returns-in-Some : goal.returns-in-Some
returns-in-Some c =
    let x = c.self.inside in
    let lt : c.args.label < x.depth = omega (arith, c.if-label-self.false, c.if-label-self-2.false) in
    ap (λ (y : Label). unnamed_found y (x.depth - c.args.label)) (sym (ap (option_map identifier_view) c.in-Some.is) ∙ c.unnamed_identifier.ensures)
    ∙ (sym (found_other x.identifiers.synthesizes x.depth c.args.label (x.depth - 1 - c.args.label) x.named.blocks c.in-Unnamed.ensures.name lt refl)
    ∙ ap (λ (s : LabelState). found_among [] s.labels c.args.label) c.self.view_is)

pub returns-in-None : goal.returns-in-None
returns-in-None c =
    let x = c.self.inside in
    let lt : c.args.label < x.depth = omega (arith, c.if-label-self.false, c.if-label-self-2.false) in
    ap (λ (y : Label). unnamed_found y (x.depth - c.args.label)) (sym (ap (option_map identifier_view) c.in-None.is) ∙ c.unnamed_identifier.ensures)
    ∙ (sym (found_other x.identifiers.synthesizes x.depth c.args.label (x.depth - 1 - c.args.label) x.named.blocks c.in-Unnamed.ensures.name lt refl)
    ∙ ap (λ (s : LabelState). found_among [] s.labels c.args.label) c.self.view_is)
