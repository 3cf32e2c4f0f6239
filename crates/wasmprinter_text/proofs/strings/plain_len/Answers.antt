use Rattle.std.proofs.Common.{◌≡◌, refl, sym, ap, ◌∙◌, arith, get_or}
use Rattle.std.proofs.lemmas.Str.{IsCharBoundary-from_drop}
use Rattle.wasmprinter_spec.specs.Quoted.{is_plain}
use Rattle.wasmprinter_text.proofs.Plain.{plain_more}
use Rattle.wasmprinter_text.proofs.strings.plain_len.Goals as goal

pub loop-i-init : goal.loop-i-init
loop-i-init c = plain_more c.args.s.now 0 c.requires.some c.requires.plain (c.utf8.s, refl)

pub loop-i-preserved : goal.loop-i-preserved
loop-i-preserved c =
    let same = c.from.ensures ∙ ap (λ bs. get_or bs c.loop-i.i 0) c.as_bytes-bytes.ensures.value in
    plain_more c.args.s.now c.loop-i.i (omega arith) (ap is_plain (sym same) ∙ sym c.is_plain.ensures ∙ c.if-not-is_plain.false) c.loop-i.invariant

pub returns-then-not-is_plain-clause-boundary : goal.returns-then-not-is_plain-clause-boundary
returns-then-not-is_plain-clause-boundary c = IsCharBoundary-from_drop c.args.s.now c.loop-i.i (omega arith) c.loop-i.invariant.0

pub returns-clause-boundary : goal.returns-clause-boundary
returns-clause-boundary c =
    let all : c.min-most.result ≡ c.loop-i.i = omega arith in
    rw all (IsCharBoundary-from_drop c.args.s.now c.loop-i.i (omega arith) c.loop-i.invariant.0)
