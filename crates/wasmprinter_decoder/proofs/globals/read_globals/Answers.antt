use Rattle.std.proofs.Common.{◌≡◌, refl}
use Rattle.std.proofs.lemmas.Result.{err_from_is_err_and}
use Rattle.wasmprinter_spec.specs.Grammar.{value_with_place}
use Rattle.wasmprinter_spec.specs.Binary.Globals.{global}
use Rattle.wasmprinter_spec.specs.Sections.{FunctionSection, GlobalSection, holds}
use Rattle.wasmprinter_decoder.specs.Refusals.{HoldsItems}
use Rattle.wasmprinter_decoder.proofs.SectionLists.{grown_fault}
use Rattle.wasmprinter_decoder.proofs.globals.read_globals.Goals as goal

pub returns-in_err-globals : goal.returns-in_err-globals
returns-in_err-globals c =
    let (fault, failed, is) = err_from_is_err_and c.from_residual.result c.from_residual.ensures.1 in
    rw (failed, is)
    (grown_fault (value_with_place global) (holds GlobalSection) (HoldsItems GlobalSection) (GlobalSection ≡ FunctionSection) tt (λ xs. refl)
    c.args.cursor.now c.in_err-globals.field-0.0 c.in_err-globals.ensures.reads)
