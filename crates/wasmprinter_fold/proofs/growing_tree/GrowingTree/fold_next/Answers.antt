use Rattle.std.proofs.Common.{◌∙◌, sym}
use Rattle.std.proofs.lemmas.Result.{on_ok_weaker}
use Rattle.wasmprinter_fold.proofs.Growing.{same_counts, plain_labels}
use Rattle.wasmprinter_fold.proofs.growing_tree.GrowingTree.fold_next.Goals as goal

pub returns-in-Plain-clause-labels : goal.returns-in-Plain-clause-labels
returns-in-Plain-clause-labels g c =
    c.in_ok-add.ensures.labels ∙ sym (plain_labels c.args.role _ _ _ c.in-Plain.is c.requires.role)

pub returns-in_default-clause-labels : goal.returns-in_default-clause-labels
returns-in_default-clause-labels g c =
    on_ok_weaker c.advance.result
    (λ e. e
    ∙ same_counts _ _ _ _ _ _ c.requires.role (c.label_of_block.ensures c.args.own)
    c.in_ok-add.ensures.labels) c.advance.ensures.ok
