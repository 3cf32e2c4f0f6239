use Rattle.std.proofs.Common.{◌≡◌, ℕ, List, [], ◌∷◌, length, arith, refl}
use Rattle.std.specs.Prelude.{Result, Err}
use Rattle.std.specs.declared.io.Error.{Error as IoError}
use Rattle.std.proofs.lemmas.Str.{IsUtf8-past_char}
use Rattle.wasmprinter_print.specs.MadeLaws.{called, call_fails}
use Rattle.wasmprinter_print.proofs.Texts.{text_done, text_fails, text_whole}
use Rattle.wasmprinter_print.proofs.print.Print.write_each_char.Goals as goal

none_left : (bs : List ℕ) → length bs ≡ 0 → bs ≡ []
none_left [] e = refl
none_left (b ∷ bs) e = absurd (omega arith)

abbrev failed_with : IoError → Result (Unit {0}) IoError
failed_with e = Err e

pub returns : goal.returns
returns g c =
    let ((empty, stays), some, first) = c.in-None.ensures.steps in
    text_whole g.Self.Print.meaning _ _ (none_left _ empty) c.loop-c.invariant.1

pub returns-in_err-write_str : goal.returns-in_err-write_str
returns-in_err-write_str g c =
    text_fails g.Self.Print.meaning _ _ _ c.from_residual.result c.in-Some.ensures.steps.0 c.loop-c.invariant.1
    (call_fails g.Self.Print.meaning (failed_with c.in_err-write_str.field-0.0) _ refl (rw c.encode_utf8.ensures.value at c.in_err-write_str.ensures)) c.from_residual.ensures.1

pub loop-c-preserved : goal.loop-c-preserved
loop-c-preserved g c = (
  IsUtf8-past_char _ _ c.in-Some.c c.loop-c.invariant.0 c.in-Some.ensures.steps.0,
  text_done g.Self.Print.meaning _ _ _ c.in-Some.ensures.steps.0 c.loop-c.invariant.1 (called g.Self.Print.meaning (rw c.encode_utf8.ensures.value at c.in_ok-write_str.ensures)),
)
