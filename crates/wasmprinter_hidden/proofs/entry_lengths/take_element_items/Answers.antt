use Rattle.std.proofs.Common.{ap, arith}
use Rattle.wasmprinter_decoder.specs.Segments.{constant_of, constants_of}
use Rattle.wasmprinter_hidden.specs.Lengths.{expression_len}
use Rattle.wasmprinter_hidden.proofs.Lists.{list_len-view}
use Rattle.wasmprinter_hidden.specs.declared.excess.Excess.{Excess}
use Rattle.wasmprinter_hidden.proofs.entry_lengths.take_element_items.Goals as goal
use Rattle.wasmprinter_hidden.proofs.entry_lengths.take_element_items.Goals.{then-not-omits_type-2, else-not-omits_type-2}

pub returns-after-not-omits_type-2 : goal.returns-after-not-omits_type-2
returns-after-not-omits_type-2 c =
    let all = list_len-view expression_len constant_of c.deref.result.now (constants_of c.in-Expressions.expressions.items) (ap constants_of c.deref.ensures.value) in
    rw c.in-Expressions.is (elim c.if-not-omits_type-2.branch [
      | then-not-omits_type-2 w ↦ rw w.if-not-omits_type-2.true (omega (arith, ap (λ (e : Excess). e.bytes) w.excess-is))
      | else-not-omits_type-2 w ↦ rw w.if-not-omits_type-2.false (omega (arith, ap (λ (e : Excess). e.bytes) w.excess-is))
    ])
