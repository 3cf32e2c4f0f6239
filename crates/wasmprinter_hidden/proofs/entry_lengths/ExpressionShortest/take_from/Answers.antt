use Rattle.std.proofs.Common.{◌≡◌, ℕ, List, ap, ◌∙◌, arith}
use Rattle.wasmprinter_spec.specs.Grammar.{Placed}
use Rattle.wasmprinter_spec.specs.Operator.{Operator}
use Rattle.wasmprinter_ops.specs.Operators.{pairs}
use Rattle.wasmprinter_hidden.specs.Lengths.{items_len, operator_len}
use Rattle.wasmprinter_hidden.proofs.Lists.{items_len-map}
use Rattle.wasmprinter_hidden.proofs.entry_lengths.ExpressionShortest.take_from.Goals as goal

pub returns : goal.returns
returns c =
    let len : ℕ × Operator → ℕ = λ x. operator_len x.1 in
    let ops : List (Placed Operator) = c.args.self.now.items in
    let none : items_len len (pairs c.loop-operator.operator-iterator) ≡ 0 = ap (items_len len) c.in-None.ensures.steps.0 in
    let start : c.into_iter-operator-iterator.result ≡ ops = c.into_iter-operator-iterator.ensures.into_iter_gives ∙ c.operators-operator-items.ensures.all in
    let all : items_len len (pairs c.into_iter-operator-iterator.result) ≡ items_len (λ o. operator_len o.value) ops =
    ap (λ (xs : List (Placed Operator)). items_len len (pairs xs)) start ∙ items_len-map len (λ (o : Placed Operator). (o.place, o.value)) ops in
    omega arith
