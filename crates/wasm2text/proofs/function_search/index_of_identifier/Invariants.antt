-- No function so far has the identifier.
use Rattle.std.proofs.Common.{ℕ, ◌<◌}
use Rattle.wasmprinter_spec.specs.Names.{name_in}
use Rattle.wasmprinter_spec.specs.Names.Section.{function_subsection}
use Rattle.wasmprinter_custom.specs.Views.{name_at}
use Rattle.wasm2text.specs.FunctionText.{HasContent}
use Rattle.wasm2text.proofs.function_search.index_of_identifier.Given as goal

abbrev pub invariant-loop-index : goal.invariant-loop-index
invariant-loop-index l =
    (n : ℕ) → n < l.index → HasContent (name_in l.synthesizes (name_at l.identifiers.names.now) function_subsection 0 n) l.word → ⊥
