use Rattle.std.proofs.Common.{◌≡◌, refl}
use Rattle.std.proofs.lemmas.Result.{err_from_is_err_and}
use Rattle.wasmprinter_spec.specs.Grammar.{value_with_place}
use Rattle.wasmprinter_spec.specs.Binary.Memories.{memory_type}
use Rattle.wasmprinter_spec.specs.Sections.{FunctionSection, MemorySection, holds}
use Rattle.wasmprinter_decoder.specs.Refusals.{HoldsItems}
use Rattle.wasmprinter_decoder.proofs.SectionLists.{list_fault}
use Rattle.wasmprinter_decoder.proofs.memories.read_memories.Goals as goal

pub returns-in_err-memories : goal.returns-in_err-memories
returns-in_err-memories c =
    let (fault, failed, is) = err_from_is_err_and c.from_residual.result c.from_residual.ensures.1 in
    rw (failed, is)
    (list_fault (value_with_place memory_type) (holds MemorySection) (HoldsItems MemorySection) (MemorySection ≡ FunctionSection) tt (λ xs. refl)
    c.args.cursor.now c.in_err-memories.field-0.0 c.in_err-memories.ensures.reads)
