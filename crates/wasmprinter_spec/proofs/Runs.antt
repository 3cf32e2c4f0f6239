-- Bytes that are identifier characters.
use Rattle.std.specs.Prelude.{◌≡◌, ℕ, List, [], ◌∷◌, ◌++◌, true, refl}
use Rattle.std.specs.Str.Parse.{AllDigits}
use Rattle.std.proofs.Common.{ap}
use Rattle.std.proofs.lemmas.Bool.{and_parts, and_from}
use Rattle.wasmprinter_spec.specs.Character.{class}
use Rattle.wasmprinter_spec.specs.Quoted.{is_id_char, all_id_chars}
use Rattle.wasmprinter_spec.proofs.Classes.{digit_class}

-- If two lists consist of identifier characters, so do they together.
pub all_id_chars-append : (a b : List ℕ) → all_id_chars a ≡ true → all_id_chars b ≡ true → all_id_chars (a ++ b) ≡ true
all_id_chars-append [] b h k = k
all_id_chars-append (c ∷ cs) b h k =
    let (own, others) = and_parts (is_id_char (class c)) (all_id_chars cs) h in
    and_from (is_id_char (class c)) (all_id_chars (cs ++ b)) own (all_id_chars-append cs b others k)

-- Digits are identifier characters.
pub all_id_chars-digits : (ds : List ℕ) → AllDigits 10 ds → all_id_chars ds ≡ true
all_id_chars-digits [] h = refl
all_id_chars-digits (c ∷ cs) (own, others) = and_from (is_id_char (class c)) (all_id_chars cs) (ap is_id_char (digit_class c own)) (all_id_chars-digits cs others)
