use Rattle.std.proofs.Common.{◌≡◌, ◌+◌, ◌==◌, ℕ, true, false, sym, ap, ◌∙◌, arith}
use Rattle.wasmprinter_spec.specs.Module.{func_import}
use Rattle.wasmprinter_spec.specs.Customs.Hints.{FunctionHints}
use Rattle.wasmprinter_hidden.specs.HiddenNames.{imported}
use Rattle.wasmprinter_hidden.specs.HiddenHints.{left_in_body}
use Rattle.wasmprinter_hidden.proofs.HintParts.{left_taken, left_of_another, left_without}
use Rattle.wasmprinter_hidden.proofs.hint_findings.add_left_hints.Goals as goal
use Rattle.wasmprinter_hidden.proofs.hint_findings.add_left_hints.Goals.{in-Some+then-is_of+in_ok-add_hints, in-Some+else-is_of, in_default}

pub loop-index-preserved : goal.loop-index-preserved
loop-index-preserved c =
    let m = c.args.module.now in
    let es = c.args.entries.now in
    let k : ℕ = imported m func_import in
    let i = c.loop-index.index in
    let t = c.loop-index.taken in
    let number : c.imported_count-first.result + c.from.result ≡ k + i = omega (arith, c.imported_count-first.ensures.is, c.from.ensures) in
    elim c.match-get.branch [
      | in-Some+then-is_of+in_ok-add_hints w ↦
          let (there, item, must, (lt, at), or_else) = w.in-Some.ensures.lookup in
          let e : FunctionHints = w.in-Some.entry.now in
          let f = w.function-function.result in
          let same : (e.function == k + i) ≡ true = ap (λ (n : ℕ). e.function == n) (sym number) ∙ sym w.is_of.ensures ∙ w.if-is_of.true in
          let left = (rw w.body.ensures at w.left_in_body.ensures) ∙ ap (λ (x : FunctionHints). left_in_body f.body.place x.hints f.body.value.operators) w.entry.view_is in
          rw (w.findings-is, w.taken-is) (record {
            left = left_taken k i t m.functions es f e c.loop-index.findings w.add_hints.new.findings _ w.left_in_body.result w.function-function.ensures
                lt item same left w.in_ok-add_hints.ensures c.loop-index.invariant.left;
            within = omega (arith, lt);
          })
      | in-Some+else-is_of w ↦
          let (there, item, must, (lt, at), or_else) = w.in-Some.ensures.lookup in
          let e : FunctionHints = w.in-Some.entry.now in
          let other : (e.function == k + i) ≡ false = ap (λ (n : ℕ). e.function == n) (sym number) ∙ sym w.is_of.ensures ∙ w.if-is_of.false in
          rw (w.findings-is, w.taken-is) (record {
            left = left_of_another k i t m.functions es e c.loop-index.findings _ lt item other c.loop-index.invariant.left;
            within = c.loop-index.invariant.within;
          })
      | in_default w ↦
          let (there, item, must, le, or_else) = w.in_default.ensures.lookup in
          rw (w.findings-is, w.taken-is) (record {
            left = left_without k i t m.functions es c.loop-index.findings _ le c.loop-index.invariant.left;
            within = c.loop-index.invariant.within;
          })
    ]
