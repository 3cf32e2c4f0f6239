-- The operators that worked rows read from texts.
use Rattle.std.specs.Prelude.{ℕ, List, [], Option, None}
use Rattle.wasmprinter_spec.specs.Grammar.{◌>>=◌}
use Rattle.wasmprinter_spec.specs.Operator.{Operator}
use Rattle.wasmprinter_spec.specs.Forest.{forest, without_annotations}
use Rattle.wasmprinter_spec.specs.Code.{chunks_of_forest}
use Rattle.wasmprinter_spec.specs.IndexSpaces.{Context}
use Rattle.wasmprinter_spec.specs.Text.Operators.{read_operators}
use Rattle.wasmprinter_spec.proofs.Samples.{no_spaces}

-- The operators of a text, read with these index spaces and types
abbrev pub operators_beside : Context → List ℕ → Option (List Operator)
operators_beside c text = forest text >>= λ f. chunks_of_forest (without_annotations f) >>= read_operators c

-- The operators of a text that names no item
abbrev pub read_back : List ℕ → Option (List Operator)
read_back text = operators_beside (record { spaces = no_spaces; signature = λ n. None; fields = λ n. [] }) text
