use Rattle.std.proofs.lemmas.Result.{err_from_is_err_and}
use Rattle.wasmprinter_decoder.proofs.TooManyLocals.{entry_fault}
use Rattle.wasmprinter_decoder.proofs.code.Body.read_entry.Goals as goal

pub returns-in_err-body-clause-reads : goal.returns-in_err-body-clause-reads
returns-in_err-body-clause-reads c =
    let (fault, failed, is) = err_from_is_err_and c.from_residual-in_err-body.result c.from_residual-in_err-body.ensures.1 in
    rw (failed, is)
    (entry_fault c.args.cursor.now c.u32.new.self c.in_ok-part.part c.part.new.self c.in_ok-size.size c.in_ok-size.ensures.reads c.in_ok-part.ensures.decodes.reads c.in_ok-part.ensures.place c.in_err-body.field-0.0 c.in_err-body.ensures.reads)
