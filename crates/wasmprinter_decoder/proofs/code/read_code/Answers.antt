use Rattle.std.proofs.lemmas.Result.{err_from_is_err_and}
use Rattle.wasmprinter_decoder.proofs.Listing.{code_fault}
use Rattle.wasmprinter_decoder.proofs.code.read_code.Goals as goal

pub returns-in_err-bodies : goal.returns-in_err-bodies
returns-in_err-bodies c =
    let (fault, failed, is) = err_from_is_err_and c.from_residual.result c.from_residual.ensures.1 in
    rw (failed, is) (code_fault c.args.cursor.now c.in_err-bodies.field-0.0 c.in_err-bodies.ensures.reads)
