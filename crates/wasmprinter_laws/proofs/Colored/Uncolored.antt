-- The escape sequences that a color printer adds are those that `uncolor` deletes.
use Rattle.std.specs.Prelude.{◌≡◌, ℕ, List, [], ◌∷◌, ◌++◌, refl}
use Rattle.std.specs.List.{concat}
use Rattle.std.specs.Fmt.{digits}
use Rattle.std.proofs.Common.{ap, ◌∙◌}
use Rattle.wasmprinter_spec.specs.Call.{Text, Newline, Line, Start, Claim, Style, Literal, Name, Keyword, TypeName, Comment, Reset, text_of}
use Rattle.wasmprinter_spec.specs.Color.{uncolor}
use Rattle.wasmprinter_spec.specs.Plain.{IsPlainByte, IsPlainText}
use Rattle.wasmprinter_spec.specs.Looks.{sequences_of}
use Rattle.wasmprinter_spec.specs.Colored.{look_of, colored_text}
use Rattle.wasmprinter_laws.proofs.Tokens.Plain.{uncolor-byte}
use Rattle.wasmprinter_spec.proofs.Each.{all_parts}
use Rattle.wasmprinter_laws.specs.PlainLaws.{ColorsKeepText}

-- Plain text at the front is kept.
front_stays : (text rest : List ℕ) → IsPlainText (text ++ rest) → (more : List ℕ) → uncolor (text ++ more) ≡ text ++ uncolor more
front_stays [] rest h more = refl
front_stays (b ∷ bs) rest h more = uncolor-byte b (bs ++ more) h.0 ∙ ap (λ t. b ∷ t) (front_stays bs rest h.1 more)

-- The sequences of a style are deleted.
style_goes : (style : Style) (more : List ℕ) → uncolor (concat (sequences_of (look_of style)) ++ more) ≡ uncolor more
unfolding digits
style_goes Literal more = refl
style_goes Name more = refl
style_goes Keyword more = refl
style_goes TypeName more = refl
style_goes Comment more = refl
style_goes Reset more = refl

pub colors_keep_text : ColorsKeepText
colors_keep_text [] h = refl
colors_keep_text (Text bytes ∷ calls) h =
    front_stays bytes (text_of calls) h (colored_text calls) ∙ ap (λ t. bytes ++ t) (colors_keep_text calls (all_parts IsPlainByte bytes (text_of calls) h).1)
colors_keep_text (Newline ∷ calls) h =
    uncolor-byte 10 (colored_text calls) h.0 ∙ ap (λ t. 10 ∷ t) (colors_keep_text calls h.1)
colors_keep_text (Line place ∷ calls) h = colors_keep_text calls h
colors_keep_text (Start style ∷ calls) h = style_goes style (colored_text calls) ∙ colors_keep_text calls h
colors_keep_text (Claim name place bytes claimed ∷ calls) h = colors_keep_text calls h
