use Rattle.std.proofs.Common.{subst, sym}
use Rattle.wasmprinter_spec.specs.Nesting.{Open, advance}
use Rattle.wasmprinter_ops.specs.Shapes.{role_view}
use Rattle.wasmprinter_ops.specs.Nesting.{Steps}
use Rattle.wasmprinter_ops.specs.declared.open_blocks.Step.{Step}
use Rattle.wasmprinter_ops.proofs.Skipping.{Skipped, skipped_none, takes_byte, on_more}
use Rattle.wasmprinter_ops.proofs.expression.skip_operators.Goals as goal

pub loop-blocks-init : goal.loop-blocks-init
loop-blocks-init c = subst (λ (s : Open). Skipped c.args.cursor.now s c.args.cursor.now) (sym c.new-blocks.ensures) (skipped_none c.args.cursor.now)

pub loop-blocks-smaller : goal.loop-blocks-smaller
loop-blocks-smaller c =
    let (operator, parsed, role) = c.in_ok-role.ensures.reads in
    takes_byte c.loop-blocks.cursor c.pass_operator.new.cursor operator parsed

pub loop-blocks-preserved : goal.loop-blocks-preserved
loop-blocks-preserved c =
    let (operator, parsed, role) = c.in_ok-role.ensures.reads in
    on_more c.args.cursor.now c.loop-blocks.blocks c.loop-blocks.cursor c.pass_operator.new.cursor operator (role_view c.in_ok-role.role)
    c.advance.new.self parsed c.loop-blocks.invariant role
    (subst (λ (t : Step). Steps (advance c.loop-blocks.blocks (role_view c.in_ok-role.role)) t c.advance.new.self) c.in-On.is c.in_ok-advance.ensures)
