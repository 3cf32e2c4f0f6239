-- Worked rows of the escape sequences that a color printer writes, typed by hand.
use Rattle.std.specs.Prelude.{◌≡◌, [], ◌∷◌, ◌++◌, true, false, Some, None, codes, refl}
use Rattle.std.specs.Fmt.{digits}
use Rattle.wasmprinter_spec.specs.Call.{Text, Newline, Line, Start, Claim, Keyword, Reset}
use Rattle.wasmprinter_spec.specs.Looks.{sequences_of}
use Rattle.wasmprinter_spec.specs.Colored.{colored_text}
use Rattle.wasmprinter_spec.proofs.Sequences.{escape}

-- The text of an empty module
empty_module : colored_text (Line (Some 0) ∷ Text (codes "(") ∷ Start Keyword ∷ Text (codes "module") ∷ Start Reset ∷ Text (codes ")") ∷ Newline ∷ [])
    ≡ codes "(" ++ escape (codes "0m") ++ escape (codes "1m") ++ escape (codes "38;5;11m") ++ codes "module" ++ escape (codes "0m") ++ codes ")\n"
unfolding digits
empty_module = refl

-- A claim, which writes nothing
questions : colored_text (Text (codes "a") ∷ Claim (codes "name") 8 (0 ∷ []) false ∷ Text (codes "b") ∷ []) ≡ codes "ab"
questions = refl

-- Bold without a color, intense without a color, and an intense color that is not bold
bold_alone : sequences_of (Some (record { color = None; bold = true; intense = false })) ≡ escape (codes "0m") ∷ escape (codes "1m") ∷ []
bold_alone = refl

no_color : sequences_of (Some (record { color = None; bold = false; intense = true })) ≡ escape (codes "0m") ∷ []
no_color = refl

intense_magenta : sequences_of (Some (record { color = Some 5; bold = false; intense = true })) ≡ escape (codes "0m") ∷ escape (codes "38;5;13m") ∷ []
unfolding digits
intense_magenta = refl
