use Rattle.std.proofs.Common.{◌≡◌, refl}
use Rattle.std.proofs.lemmas.Result.{err_from_is_err_and}
use Rattle.wasmprinter_spec.specs.Grammar.{value_with_place}
use Rattle.wasmprinter_spec.specs.Binary.Tags.{tag}
use Rattle.wasmprinter_spec.specs.Sections.{FunctionSection, TagSection, holds}
use Rattle.wasmprinter_decoder.specs.Refusals.{HoldsItems}
use Rattle.wasmprinter_decoder.proofs.SectionLists.{list_fault}
use Rattle.wasmprinter_decoder.proofs.tags.read_tags.Goals as goal

pub returns-in_err-tags : goal.returns-in_err-tags
returns-in_err-tags c =
    let (fault, failed, is) = err_from_is_err_and c.from_residual.result c.from_residual.ensures.1 in
    rw (failed, is)
    (list_fault (value_with_place tag) (holds TagSection) (HoldsItems TagSection) (TagSection ≡ FunctionSection) tt (λ xs. refl)
    c.args.cursor.now c.in_err-tags.field-0.0 c.in_err-tags.ensures.reads)
