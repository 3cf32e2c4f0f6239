use Rattle.std.proofs.Common.{◌≤◌, ℕ, arith, ap, sym, subst, ◌∙◌}
use Rattle.wasmprinter_hidden.specs.Lengths.{unsigned_len}
use Rattle.wasmprinter_hidden.proofs.FunctionParts.{unsigned_len-few, indices_more, indices_none, indices_all}
use Rattle.wasmprinter_hidden.proofs.function_findings.type_indices_len.Goals as goal

pub loop-number-init : goal.loop-number-init
loop-number-init c = record {
  rest = indices_all c.args.module.now.functions c.unsigned_len-len.result
      (c.unsigned_len-len.ensures ∙ ap unsigned_len (c.from.ensures ∙ c.function_count-count.ensures));
  few = subst (λ (n : ℕ). n ≤ 10) (sym c.unsigned_len-len.ensures) (unsigned_len-few c.from.result);
}

pub overflow_add-len : goal.overflow_add-len
overflow_add-len c =
    let len = c.unsigned_len-len-in-loop-number.result in
    let few : len ≤ 10 = subst (λ (n : ℕ). n ≤ 10) (sym c.unsigned_len-len-in-loop-number.ensures) (unsigned_len-few c.from-in-loop-number.result) in
    let most = c.function_count-count.type_inv in
    let so_far = c.loop-number.invariant.few in
    let within = c.loop-number-test.true in
    omega arith

pub loop-number-preserved : goal.loop-number-preserved
loop-number-preserved c =
    let len = c.unsigned_len-len-in-loop-number.result in
    let few : len ≤ 10 = subst (λ (n : ℕ). n ≤ 10) (sym c.unsigned_len-len-in-loop-number.ensures) (unsigned_len-few c.from-in-loop-number.result) in
    let so_far = c.loop-number.invariant.few in
    let f = c.function.result in
    record {
      rest = indices_more c.args.module.now.functions c.loop-number.number f c.loop-number.len len _ c.function.ensures
          (c.unsigned_len-len-in-loop-number.ensures ∙ ap unsigned_len (c.from-in-loop-number.ensures ∙ c.type_index.ensures)) c.loop-number.invariant.rest;
      few = omega arith;
    }

pub returns : goal.returns
returns c =
    indices_none c.args.module.now.functions c.loop-number.number c.loop-number.len _
    (subst (λ (n : ℕ). n ≤ c.loop-number.number) c.function_count-count.ensures c.loop-number-test.false) c.loop-number.invariant.rest
