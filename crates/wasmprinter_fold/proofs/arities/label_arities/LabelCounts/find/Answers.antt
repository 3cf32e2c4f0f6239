use Rattle.std.proofs.Common.{ℕ, List, Option, ap, ◌∙◌, arith}
use Rattle.wasmprinter_spec.specs.Folding.Arities.{label_count}
use Rattle.wasmprinter_fold.proofs.LabelsFound.{found_block, found_body, found_nothing}
use Rattle.wasmprinter_fold.proofs.arities.label_arities.LabelCounts.find.Goals as goal

pub returns-then-label-depth : goal.returns-then-label-depth
returns-then-label-depth c =
    found_block c.self.inside.counts.items c.args.own c.len-depth.result c.args.label (c.len-depth.ensures ∙ c.self.inside.counts.ok.0) c.index.result.now c.if-label-depth.true c.index.ensures
    ∙ ap (λ (xs : List (Option ℕ)). label_count xs c.args.own c.args.label) c.self.view_is

pub returns-then-label-depth-2 : goal.returns-then-label-depth-2
returns-then-label-depth-2 c =
    found_body c.self.inside.counts.items c.args.own c.len-depth.result c.args.label (c.len-depth.ensures ∙ c.self.inside.counts.ok.0) c.if-label-depth-2.true
    ∙ ap (λ (xs : List (Option ℕ)). label_count xs c.args.own c.args.label) c.self.view_is

pub returns-else-label-depth-2 : goal.returns-else-label-depth-2
returns-else-label-depth-2 c =
    found_nothing c.self.inside.counts.items c.args.own c.len-depth.result c.args.label (c.len-depth.ensures ∙ c.self.inside.counts.ok.0)
    (omega (arith, c.if-label-depth.false, c.if-label-depth-2.false))
    ∙ ap (λ (xs : List (Option ℕ)). label_count xs c.args.own c.args.label) c.self.view_is
