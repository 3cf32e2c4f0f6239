use Rattle.std.proofs.Common.{refl}
use Rattle.std.proofs.lemmas.Result.{err_from_is_err_and}
use Rattle.wasmprinter_decoder.proofs.TooManyLocals.{body_over, body_fault}
use Rattle.wasmprinter_decoder.proofs.code.Body.read.Goals as goal

pub returns-then-are_too_many-clause-reads : goal.returns-then-are_too_many-clause-reads
returns-then-are_too_many-clause-reads c =
    body_over c.args.cursor.now c.read_items.new.cursor c.in_ok-locals.locals c.in_ok-locals.ensures.reads c.place-place.result c.place-place.ensures (c.if-are_too_many.ensures.0 refl)

pub returns-in_err-code-clause-reads : goal.returns-in_err-code-clause-reads
returns-in_err-code-clause-reads c =
    let (fault, failed, is) = err_from_is_err_and c.from_residual-in_err-code.result c.from_residual-in_err-code.ensures.1 in
    rw (failed, is)
    (body_fault c.args.cursor.now c.read_items.new.cursor c.in_ok-locals.locals c.in_ok-locals.ensures.reads c.in_ok-locals.ensures.end c.in_ok-locals.ensures.forward c.in_err-code.field-0.0 c.in_err-code.ensures.reads)
