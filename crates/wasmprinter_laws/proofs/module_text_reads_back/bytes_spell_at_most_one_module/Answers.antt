use Rattle.std.proofs.Common.{sym, ◌∙◌}
use Rattle.wasmprinter_spec.specs.Grammar.{input, some_is}
use Rattle.wasmprinter_spec.specs.Binary.{binary}
use Rattle.wasmprinter_laws.proofs.module_text_reads_back.bytes_spell_at_most_one_module.Goals as goal

pub returns : goal.returns
returns c bytes m n s t =
    some_is m n (sym (binary.complete (input 0 bytes) m s.spelled) ∙ binary.complete (input 0 bytes) n t.spelled)
