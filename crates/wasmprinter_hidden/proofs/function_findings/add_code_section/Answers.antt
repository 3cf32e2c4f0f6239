use Rattle.std.proofs.Common.{◌≡◌, ◌+◌, ◌-◌, ◌<◌, ◌≤◌, ◌^◌, ◌++◌, ℕ, length, refl, sym, ap, subst, ◌∙◌, arith}
use Rattle.wasmprinter_spec.specs.Grammar.{Placed}
use Rattle.wasmprinter_spec.specs.Placed.{Body}
use Rattle.wasmprinter_hidden.specs.Lengths.{unsigned_len}
use Rattle.wasmprinter_hidden.specs.Hidden.{Extent, extent, body_end, body_size, in_size, in_body, in_code_section}
use Rattle.wasmprinter_hidden.specs.OpenParts.{in_open}
use Rattle.wasmprinter_hidden.proofs.FunctionParts.{unsigned_len-few, all_at, bodies_more, bodies_none, code_of_bodies}
use Rattle.wasmprinter_hidden.proofs.function_findings.add_code_section.Goals as goal

pub loop-number-init : goal.loop-number-init
loop-number-init c = record {
  found = refl;
  few = subst (λ (n : ℕ). n ≤ 10) (sym c.unsigned_len.ensures) (unsigned_len-few c.from.result);
}

pub overflow_add-end : goal.overflow_add-end
overflow_add-end c =
    let f = c.function-function.result in
    let fits : body_end f < 2 ^ 64 = all_at (λ g. body_end g < 2 ^ 64) c.args.module.now.functions c.loop-number.number f c.requires c.function-function.ensures in
    omega (arith, c.end-end.ensures, ap (λ (b : Placed Body). b.value.end) c.body-body.ensures)

pub overflow_add-size : goal.overflow_add-size
overflow_add-size c =
    let len = c.unsigned_len-in-loop-number.result in
    let few : len ≤ 10 = subst (λ (n : ℕ). n ≤ 10) (sym c.unsigned_len-in-loop-number.ensures) (unsigned_len-few c.saturating_sub.result) in
    let so_far = c.loop-number.invariant.few in
    omega arith

pub loop-number-preserved : goal.loop-number-preserved
loop-number-preserved c =
    let f = c.function-function.result in
    let fs = c.args.module.now.functions in
    let len = c.unsigned_len-in-loop-number.result in
    let end_is : c.end-end.result + 1 ≡ body_end f = ap (λ (n : ℕ). n + 1) (c.end-end.ensures ∙ ap (λ (b : Placed Body). b.value.end) c.body-body.ensures) in
    let place_is : c.place-place.result ≡ f.body.place = c.place-place.ensures ∙ ap (λ (b : Placed Body). b.place) c.body-body.ensures in
    let len_is : len ≡ unsigned_len (body_size f) =
    c.unsigned_len-in-loop-number.ensures
    ∙ ap unsigned_len (c.saturating_sub.ensures ∙ ap (λ (n : ℕ). n - c.place-place.result) end_is ∙ ap (λ (p : ℕ). body_end f - p) place_is) in
    let closed : c.close.new.self ≡ c.loop-number.findings ++ in_open (record c.loop-number.size { len = c.loop-number.size.len + len }) f.body.place =
    c.in_ok-close.ensures
    ∙ ap (λ (p : ℕ). c.loop-number.findings ++ in_open (record c.loop-number.size { len = c.loop-number.size.len + len }) p) place_is in
    let more : c.add_body.new.findings ≡ c.close.new.self ++ in_body f.body =
    c.in_ok-add_body.ensures ∙ ap (λ (b : Placed Body). c.close.new.self ++ in_body b) c.body-body.ensures in
    record {
      found = rw end_is (bodies_more fs c.loop-number.number f c.loop-number.size len c.loop-number.findings c.close.new.self c.add_body.new.findings _
          c.function-function.ensures len_is c.loop-number.invariant.found closed more);
      few = omega arith;
    }

pub returns : goal.returns
returns c =
    let s = c.section.inside in
    let x : Extent = extent s.place s.id s.contents s.end in
    let fs = c.args.module.now.functions in
    let old = c.args.findings.now in
    let past : length fs ≤ c.loop-number.number = omega (arith, c.loop-number-test.false, c.function_count-count.ensures) in
    let some : length fs ≡ 0 → ⊥ = λ none. c.if-count-eq0.false (c.function_count-count.ensures ∙ none) in
    let sized : c.add_size.new.findings ≡ old ++ in_size x = subst (λ (y : Extent). c.add_size.new.findings ≡ old ++ in_size y) (sym c.section.view_is) c.in_ok-add_size.ensures in
    let whole = bodies_none fs c.loop-number.number c.loop-number.size c.loop-number.findings _ past c.loop-number.invariant.found in
    subst (λ (y : Extent). c.loop-number.findings ≡ old ++ in_code_section fs y) c.section.view_is
    (code_of_bodies fs x old c.add_size.new.findings c.loop-number.findings c.unsigned_len.result some sized
    (c.unsigned_len.ensures ∙ ap unsigned_len (c.from.ensures ∙ c.function_count-count.ensures)) whole)
