use Rattle.std.proofs.Common.{◌≡◌, ℕ, List, ◌∷◌, ap, sym, ◌∙◌, arith}
use Rattle.wasmprinter_spec.specs.Grammar.{Placed}
use Rattle.wasmprinter_hidden.specs.Lengths.{operator_len}
use Rattle.wasmprinter_hidden.specs.declared.finding.Part.TheVariants.{Instruction}
use Rattle.wasmprinter_hidden.proofs.BodyParts.{of_pairs, operators-pairs}
use Rattle.wasmprinter_hidden.specs.OpenParts.{lengths_of_operators}
use Rattle.wasmprinter_hidden.proofs.OpenParts.{left_more, left_none}
use Rattle.wasmprinter_hidden.proofs.body_findings.add_operators.Goals as goal

pub loop-place-preserved : goal.loop-place-preserved
loop-place-preserved c =
    let item : Placed ℕ = record { place = c.in-Some.place; value = operator_len c.in-Some.operator } in
    let step : lengths_of_operators c.loop-place.place-iterator ≡ item ∷ lengths_of_operators c.next.new.self =
    operators-pairs c.loop-place.place-iterator ∙ ap of_pairs c.in-Some.ensures.steps
    ∙ ap (λ (xs : List (Placed ℕ)). item ∷ xs) (sym (operators-pairs c.next.new.self)) in
    left_more Instruction c.args.findings.now c.args.first (lengths_of_operators c.args.body.now.value.operators) c.loop-place.findings c.close.new.self c.loop-place.last
    c.of_item-last.result c.in-Some.place (operator_len c.in-Some.operator) (lengths_of_operators c.loop-place.place-iterator) (lengths_of_operators c.next.new.self)
    (omega arith) c.in_ok-close.ensures c.of_item-last.ensures step c.loop-place.invariant

pub returns : goal.returns
returns c =
    left_none Instruction c.args.findings.now c.args.first (lengths_of_operators c.args.body.now.value.operators) c.loop-place.findings c.loop-place.last
    (lengths_of_operators c.loop-place.place-iterator) (operators-pairs c.loop-place.place-iterator ∙ ap of_pairs c.in-None.ensures.steps.0) c.loop-place.invariant
