use Rattle.std.proofs.Common.{ap, ◌∙◌}
use Rattle.wasmprinter_spec.specs.Folding.Arities.{signatures_within}
use Rattle.wasmprinter_ops.specs.Immediates.{immediates_view}
use Rattle.wasmprinter_ops.specs.Blocks.{block_type_view}
use Rattle.wasmprinter_fold.proofs.BlockLabels.{label_in_block, label_in_try}
use Rattle.wasmprinter_fold.proofs.arities.label_arities.label_of_block.Goals as goal

pub returns-in-Block : goal.returns-in-Block
returns-in-Block c own =
    c.label_of_type.ensures own
    ∙ label_in_block (signatures_within c.args.callees.now own) c.operator.inside.opcode (immediates_view c.operator.inside.immediates) c.args.operator.now
    (block_type_view c.in-Block.block_type) c.is_loop.result c.operator.view_is (ap immediates_view c.in-Block.is) c.is_loop.ensures

pub returns-in-TryTable : goal.returns-in-TryTable
returns-in-TryTable c own =
    c.block_results.ensures own
    ∙ label_in_try (signatures_within c.args.callees.now own) c.operator.inside.opcode (immediates_view c.operator.inside.immediates) c.args.operator.now
    (block_type_view c.in-TryTable.block_type) _ c.operator.view_is (ap immediates_view c.in-TryTable.is)
