use Rattle.std.proofs.Common.{◌≡◌, refl}
use Rattle.std.proofs.lemmas.Result.{err_from_is_err_and}
use Rattle.wasmprinter_spec.specs.Grammar.{value_with_place}
use Rattle.wasmprinter_spec.specs.Binary.DataSegments.{segment}
use Rattle.wasmprinter_spec.specs.Sections.{FunctionSection, DataSection, holds}
use Rattle.wasmprinter_decoder.specs.Refusals.{HoldsItems}
use Rattle.wasmprinter_decoder.proofs.SectionLists.{grown_fault}
use Rattle.wasmprinter_decoder.proofs.data_segments.read_data.Goals as goal

pub returns-in_err-segments : goal.returns-in_err-segments
returns-in_err-segments c =
    let (fault, failed, is) = err_from_is_err_and c.from_residual.result c.from_residual.ensures.1 in
    rw (failed, is)
    (grown_fault (value_with_place segment) (holds DataSection) (HoldsItems DataSection) (DataSection ≡ FunctionSection) tt (λ xs. refl)
    c.args.cursor.now c.in_err-segments.field-0.0 c.in_err-segments.ensures.reads)
