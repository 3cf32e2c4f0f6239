-- Lemmas for a loop that writes a text in parts.
use Rattle.std.specs.Prelude.{◌≡◌, ℕ, List, [], ◌∷◌, ◌++◌, Result, IsErrAnd}
use Rattle.std.specs.declared.io.Error.{Error as IoError}
use Rattle.std.proofs.Common.{sym, ap, ◌∙◌}
use Rattle.wasmprinter_spec.specs.Call.{Call, Text, atoms}
use Rattle.wasmprinter_spec.specs.Meaning.{Meaning}
use Rattle.wasmprinter_print.specs.MadeCalls.{MadeCalls, Through, AtCall, StillToMake, ending}
use Rattle.wasmprinter_print.specs.MadeLaws.{atoms-text, ends, rest_alike, rest_none, makes_next, makes_rest}

-- A text that is left may be split into two parts.
parted : {P : Type 0} (m : Meaning P) {a s : P} {whole : List Call} (x y z : List ℕ) → z ≡ x ++ y →
    StillToMake m a s whole (Text z ∷ []) → StillToMake m a s whole (Text x ∷ Text y ∷ [])
parted m x y z e o =
    rest_alike m (Text x ∷ Text y ∷ []) (ap (λ b. atoms (Text b ∷ [])) e ∙ sym (atoms-text x y [])) o

-- If the first part of the text that is left was written, then only the second part is left.
pub text_done : {P : Type 0} (m : Meaning P) {a s t : P} {whole : List Call} (x y z : List ℕ) → z ≡ x ++ y →
    StillToMake m a s whole (Text z ∷ []) → MadeCalls m s t Through (Text x ∷ []) → StillToMake m a t whole (Text y ∷ [])
text_done m x y z e o v = makes_next m {l = Text x ∷ []} {k = Text y ∷ []} (parted m x y z e o) v

-- If writing the first part of the text that is left failed, then writing `whole` failed.
pub text_fails : {P U : Type 0} (m : Meaning P) {a s t : P} {whole : List Call} (x y z : List ℕ) (r : Result U IoError) {e : IoError} → z ≡ x ++ y →
    StillToMake m a s whole (Text z ∷ []) → MadeCalls m s t (AtCall e) (Text x ∷ []) → IsErrAnd r (λ u. u ≡ e) → MadeCalls m a t (ending r) whole
text_fails m x y z r e o v f = makes_rest m (parted m x y z e o) (ends m r (Text y ∷ []) f v)

-- If no text is left, then `whole` was made.
pub text_whole : {P : Type 0} (m : Meaning P) {a t : P} (whole : List Call) (z : List ℕ) → z ≡ [] →
    StillToMake m a t whole (Text z ∷ []) → MadeCalls m a t Through whole
text_whole m whole z e o = rest_none m whole (rest_alike m [] (ap (λ b. atoms (Text b ∷ [])) e) o)
