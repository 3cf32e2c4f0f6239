use Rattle.std.proofs.Common.{◌≡◌, refl}
use Rattle.std.proofs.lemmas.Result.{err_from_is_err_and}
use Rattle.wasmprinter_spec.specs.Grammar.{value_with_place}
use Rattle.wasmprinter_spec.specs.Binary.Imports.{import}
use Rattle.wasmprinter_spec.specs.Sections.{FunctionSection, ImportSection, holds}
use Rattle.wasmprinter_decoder.specs.Refusals.{HoldsItems}
use Rattle.wasmprinter_decoder.proofs.SectionLists.{list_fault}
use Rattle.wasmprinter_decoder.proofs.imports.read_imports.Goals as goal

pub returns-in_err-imports : goal.returns-in_err-imports
returns-in_err-imports c =
    let (fault, failed, is) = err_from_is_err_and c.from_residual.result c.from_residual.ensures.1 in
    rw (failed, is)
    (list_fault (value_with_place import) (holds ImportSection) (HoldsItems ImportSection) (ImportSection ≡ FunctionSection) tt (λ xs. refl)
    c.args.cursor.now c.in_err-imports.field-0.0 c.in_err-imports.ensures.reads)
