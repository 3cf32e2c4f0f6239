use Rattle.std.proofs.Common.{◌≡◌, length, refl, ap, arith}
use Rattle.std.proofs.lemmas.Result.{err_from_is_err_and}
use Rattle.wasmprinter_spec.specs.Grammar.{value_with_place}
use Rattle.wasmprinter_spec.specs.Binary.Types.{group}
use Rattle.wasmprinter_spec.specs.Sections.{FunctionSection, TypeSection, holds}
use Rattle.wasmprinter_decoder.specs.Refusals.{HoldsItems}
use Rattle.wasmprinter_decoder.proofs.SectionLists.{list_fault, list_grown}
use Rattle.wasmprinter_decoder.proofs.type_section.Types.read.Goals as goal

pub returns-in_err-groups : goal.returns-in_err-groups
returns-in_err-groups c =
    let (fault, failed, is) = err_from_is_err_and c.from_residual.result c.from_residual.ensures.1 in
    rw (failed, is)
    (list_fault (value_with_place group) (holds TypeSection) (HoldsItems TypeSection) (TypeSection ≡ FunctionSection) tt (λ xs. refl)
    c.args.cursor.now c.in_err-groups.field-0.0 c.in_err-groups.ensures.reads)

pub returns-in_err-types : goal.returns-in_err-types
returns-in_err-types c =
    let (fault, failed, is) = err_from_is_err_and c.from_residual-in_err-types.result c.from_residual-in_err-types.ensures.1 in
    rw (failed, is)
    (list_grown (value_with_place group) (holds TypeSection) (HoldsItems TypeSection) (TypeSection ≡ FunctionSection) tt (λ xs. refl)
    c.args.cursor.now (c.in_ok-groups.groups.items, c.read_list.new.cursor) c.in_ok-groups.ensures.reads
    (omega (arith, c.in_err-types.ensures.memory, ap length c.deref.ensures.value)))
