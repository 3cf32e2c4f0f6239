-- The text of the calls that were made before a failure.
use Rattle.std.proofs.Common.{◌≡◌, ℕ, List, [], ◌∷◌, ◌++◌, ap, ◌∙◌, append_assoc, append-nil}
use Rattle.std.specs.declared.io.Error.{Error as IoError}
use Rattle.wasmprinter_spec.specs.Call.{Call, call_text, text_of}
use Rattle.wasmprinter_spec.specs.Meaning.{Meaning}
use Rattle.wasmprinter_spec.proofs.Texts.{text_of-append, prefix_text}
use Rattle.wasmprinter_print.specs.MadeCalls.{Broken}

-- If a call failed, the text of the layout is the text of the calls before it, then the text of that call, then
-- more text.
pub broken_parts : {P : Type 0} (m : Meaning P) (old new : P) (x : IoError) (layout : List Call) (b : Broken m old new x layout) →
    text_of layout ≡ text_of b.calls ++ (call_text b.call ++ text_of b.rest)
broken_parts m old new x layout b =
    prefix_text (b.calls ++ b.call ∷ []) b.rest layout b.alike
    ∙ ap (λ (t : List ℕ). t ++ text_of b.rest) (text_of-append b.calls (b.call ∷ []))
    ∙ append_assoc (text_of b.calls) (call_text b.call ++ []) (text_of b.rest)
    ∙ ap (λ (t : List ℕ). text_of b.calls ++ (t ++ text_of b.rest)) (append-nil (call_text b.call))
