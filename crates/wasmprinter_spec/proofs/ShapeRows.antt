-- Worked rows of operators with immediates of each shape: what their bytes encode, their printed texts, and that
-- the texts read back.
use Rattle.std.specs.Prelude.{◌≡◌, ℕ, List, [], ◌∷◌, map, Option, Some, refl}
use Rattle.wasmprinter_spec.specs.Grammar.{Placed}
use Rattle.wasmprinter_spec.specs.Types.{signature_at}
use Rattle.wasmprinter_spec.specs.Operator.{Operator}
use Rattle.wasmprinter_spec.specs.Table.{table}
use Rattle.wasmprinter_spec.specs.IndexSpaces.{Context}
use Rattle.wasmprinter_spec.specs.Call.{text_of}
use Rattle.wasmprinter_spec.specs.Options.{defaults}
use Rattle.wasmprinter_spec.specs.Piece.{all_calls}
use Rattle.wasmprinter_spec.specs.Layout.Operators.{InLine, expression_pieces}
use Rattle.wasmprinter_spec.proofs.Computing.{printing, reading}
use Rattle.wasmprinter_spec.proofs.Samples.{no_spaces}
use Rattle.wasmprinter_spec.proofs.BlockSamples.{sample_types}
use Rattle.wasmprinter_spec.proofs.ShapeSamples.{all_samples}
use Rattle.wasmprinter_spec.proofs.FromBytes.{spelled}
use Rattle.wasmprinter_spec.proofs.FromText.{operators_beside}
use Rattle.wasmprinter_spec.specs.Names.{no_names}

-- ---- what bytes encode

samples_spelled : map (λ ss. map (λ s. spelled s.bytes) ss) all_samples ≡ map (λ ss. map (λ s. Some (s.operator ∷ [])) ss) all_samples
unfolding table
samples_spelled = refl

-- ---- printed texts

abbrev printed : Operator → List ℕ
printed o =
    let placed : Placed Operator = record { place = 0; value = o } in
    text_of (all_calls defaults (expression_pieces (record { form = InLine; signature = signature_at sample_types; nesting = 0; names = no_names; function = 0; body = 0 }) (placed ∷ [])))

samples_printed : map (λ ss. map (λ s. printed s.operator) ss) all_samples ≡ map (λ ss. map (λ s. s.text) ss) all_samples
unfolding printing
samples_printed = refl

-- ---- reading back

abbrev pub around : Context
around = record { spaces = no_spaces; signature = signature_at sample_types; fields = λ n. [] }

abbrev pub ops : List ℕ → Option (List Operator)
ops text = operators_beside around text

samples_read : map (λ ss. map (λ s. ops s.text) ss) all_samples ≡ map (λ ss. map (λ s. Some (s.operator ∷ [])) ss) all_samples
unfolding reading
samples_read = refl
