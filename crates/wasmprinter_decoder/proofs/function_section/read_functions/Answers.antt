use Rattle.std.proofs.lemmas.Result.{err_from_is_err_and}
use Rattle.wasmprinter_decoder.proofs.SectionLists.{functions_fault}
use Rattle.wasmprinter_decoder.proofs.function_section.read_functions.Goals as goal

pub returns-in_err-indices : goal.returns-in_err-indices
returns-in_err-indices c =
    let (fault, failed, is) = err_from_is_err_and c.from_residual.result c.from_residual.ensures.1 in
    rw (failed, is) (functions_fault c.args.cursor.now c.in_err-indices.field-0.0 c.in_err-indices.ensures.reads)
