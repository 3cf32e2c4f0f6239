use Rattle.std.proofs.Common.{refl, sym, ap, ◌∙◌}
use Rattle.wasmprinter_spec.specs.Operator.{Operator}
use Rattle.wasmprinter_spec.specs.Table.{role_of}
use Rattle.wasmprinter_flat.proofs.Walking.{operator_written, starts, has_room, has_count, after_next, goes_on, all_written}
use Rattle.wasmprinter_flat.proofs.operators.write_operators.Goals as goal

pub loop-item-init : goal.loop-item-init
loop-item-init g c =
    starts g.O.Output.wrote _ _ _ _ _ _ _ c.begin.ensures refl (c.into_iter-item-iterator.ensures.into_iter_gives ∙ c.operators-item-items.ensures.all) c.operators-item-items.ensures.few

pub write_operator_word-requires : goal.write_operator_word-requires
write_operator_word-requires g c = has_room g.O.Output.wrote c.loop-item.invariant _ _ c.in-Some.ensures.steps

pub returns-then-has_failed-clause-pieces : goal.returns-then-has_failed-clause-pieces
returns-then-has_failed-clause-pieces g c =
    after_next g.O.Output.wrote c.loop-item.invariant g.met.O.Output.pieces_then _ _ c.in-Some.ensures.steps
    (rw c.depth-depth.ensures at c.write_next_hint.ensures.pieces)
    (operator_written g.O.Output.wrote g.met.O.Output.pieces_then _ _ _ _ _ _ _ _ (c.role-role.ensures ∙ ap (λ (o : Operator). role_of o.opcode) c.operator.view_is)
    (rw c.depth-depth.ensures at c.level-level.ensures) c.start_operator.ensures c.write_operator_word.ensures) _
    (g.met.O.Output.pieces_skipped _ _ (sym c.has_failed.ensures ∙ c.if-has_failed.true))

pub returns-then-has_failed-clause-item_names : goal.returns-then-has_failed-clause-item_names
returns-then-has_failed-clause-item_names g c = c.loop-item.invariant.item_names

pub returns-then-has_failed-clause-synthesizes : goal.returns-then-has_failed-clause-synthesizes
returns-then-has_failed-clause-synthesizes g c = c.loop-item.invariant.synthesizes

pub advance-requires : goal.advance-requires
advance-requires g c = has_count g.O.Output.wrote c.loop-item.invariant _ _ c.in-Some.ensures.steps

pub returns-clause-pieces : goal.returns-clause-pieces
returns-clause-pieces g c = all_written g.O.Output.wrote c.loop-item.invariant (g.met.O.Output.no_piece _) c.in-None.ensures.steps.0

pub returns-clause-item_names : goal.returns-clause-item_names
returns-clause-item_names g c = c.loop-item.invariant.item_names

pub returns-clause-synthesizes : goal.returns-clause-synthesizes
returns-clause-synthesizes g c = c.loop-item.invariant.synthesizes

pub loop-item-preserved : goal.loop-item-preserved
loop-item-preserved g c =
    goes_on g.O.Output.wrote c.loop-item.invariant g.met.O.Output.pieces_then _ _ _ _ _ c.in-Some.ensures.steps
    (c.role-role.ensures ∙ ap (λ (o : Operator). role_of o.opcode) c.operator.view_is) c.advance.ensures c.write_next_hint.ensures.after
    (rw c.depth-depth.ensures at c.write_next_hint.ensures.pieces)
    (operator_written g.O.Output.wrote g.met.O.Output.pieces_then _ _ _ _ _ _ _ _ (c.role-role.ensures ∙ ap (λ (o : Operator). role_of o.opcode) c.operator.view_is)
    (rw c.depth-depth.ensures at c.level-level.ensures) c.start_operator.ensures c.write_operator_word.ensures)
