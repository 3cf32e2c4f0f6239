use Rattle.wasmprinter_spec.specs.Layout.Groups.{group_space}
use Rattle.wasmprinter_module_text.proofs.field_trait.write_field.Goals as goal

pub returns-clause-pieces : goal.returns-clause-pieces
unfolding group_space
returns-clause-pieces g c =
    let law = g.met.O.Output in
    law.piece_then _ _ _ _ _ (rw c.line_place.ensures at c.write_break.ensures)
    (law.piece_then _ _ _ _ _ (rw c.keyword.ensures at c.open_group_space.ensures)
    (law.group_of _ _ _ _ _ _ _ _ c.enter_group-outer_begun.ensures c.write_parts.ensures.pieces c.close_group.ensures))
