use Rattle.std.proofs.Common.{◌≡◌, ℕ, true, false, ap, sym, ◌∙◌, arith}
use Rattle.wasmprinter_spec.specs.Operator.{Operator}
use Rattle.wasmprinter_spec.specs.Table.{role_of}
use Rattle.wasmprinter_hidden.specs.HiddenNames.{opens}
use Rattle.wasmprinter_hidden.proofs.NameCounting.{opened_one, opened_none, operators_fewer}
use Rattle.wasmprinter_hidden.proofs.name_counts.block_count.Goals as goal

pub loop-operator-preserved-then-opens_block : goal.loop-operator-preserved-then-opens_block
loop-operator-preserved-then-opens_block c =
    let x : ℕ × Operator = (c.in-Some.field-0-0, c.in-Some.operator) in
    let test : opens (role_of x.1.opcode) ≡ true =
    ap (λ (o : Operator). opens (role_of o.opcode)) (sym c.operator.view_is) ∙ ap opens (sym c.role.ensures) ∙ sym c.opens_block.ensures ∙ c.if-opens_block.true in
    let one = opened_one c.loop-operator.operator-iterator c.next.new.self x c.in-Some.ensures.steps test in
    let fewer = operators_fewer c.loop-operator.operator-iterator c.next.new.self x c.in-Some.ensures.steps in
    record { can = tt; ends = tt; left = omega arith; few = omega arith }

pub loop-operator-preserved : goal.loop-operator-preserved
loop-operator-preserved c =
    let x : ℕ × Operator = (c.in-Some.field-0-0, c.in-Some.operator) in
    let test : opens (role_of x.1.opcode) ≡ false =
    ap (λ (o : Operator). opens (role_of o.opcode)) (sym c.operator.view_is) ∙ ap opens (sym c.role.ensures) ∙ sym c.opens_block.ensures ∙ c.if-opens_block.false in
    let none = opened_none c.loop-operator.operator-iterator c.next.new.self x c.in-Some.ensures.steps test in
    let fewer = operators_fewer c.loop-operator.operator-iterator c.next.new.self x c.in-Some.ensures.steps in
    record { can = tt; ends = tt; left = omega arith; few = omega arith }
