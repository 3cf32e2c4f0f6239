-- The calls of pieces with colors in the texts of some nodes. After their escape sequences are deleted, they are
-- the calls of the pieces without colors.
use Rattle.std.proofs.Common.{◌≡◌, ℕ, List, [], ◌∷◌, ◌++◌, map, codes, refl, ap, ap₂, subst, ◌∙◌}
use Rattle.wasmprinter_spec.specs.Call.{Call, Text, Newline, Line, Start, Claim, text_of}
use Rattle.wasmprinter_spec.specs.Colored.{bare_call}
use Rattle.wasmprinter_spec.specs.Plain.{IsPlainByte, IsPlainText}
use Rattle.wasmprinter_spec.specs.Options.{Options}
use Rattle.wasmprinter_spec.specs.Piece.{Piece, calls, all_calls}
use Rattle.wasmprinter_spec.proofs.Texts.{text_of-append}
use Rattle.wasmprinter_laws.proofs.Tokens.Plain.{uncolor-plain}
use Rattle.wasmprinter_spec.proofs.Each.{all_parts}
use Rattle.wasmprinter_laws.proofs.Colored.Uncolored.{colors_keep_text}
use Rattle.wasmprinter_laws.proofs.Colored.Recolored.{Recolored, none, same, node}

-- ---- plain text in two parts

front_plain : (a b : List ℕ) → IsPlainText (a ++ b) → IsPlainText a
front_plain a b h = (all_parts IsPlainByte a b h).0

after_plain : (a b : List ℕ) → IsPlainText (a ++ b) → IsPlainText b
after_plain a b h = (all_parts IsPlainByte a b h).1

-- ---- calls

bare-append : (cs ds : List Call) → map bare_call (cs ++ ds) ≡ map bare_call cs ++ map bare_call ds
bare-append [] ds = refl
bare-append (c ∷ cs) ds = ap (λ (es : List Call). bare_call c ∷ es) (bare-append cs ds)

-- If the text of calls is plain, then deleting the escape sequences changes none of the calls.
plain_bare : (cs : List Call) → IsPlainText (text_of cs) → map bare_call cs ≡ cs
plain_bare [] h = refl
plain_bare (Text s ∷ cs) h =
    ap₂ (λ (t : List ℕ) (ds : List Call). Text t ∷ ds) (uncolor-plain s (front_plain s (text_of cs) h)) (plain_bare cs (after_plain s (text_of cs) h))
plain_bare (Newline ∷ cs) h = ap (λ (ds : List Call). Newline ∷ ds) (plain_bare cs h.1)
plain_bare (Line place ∷ cs) h = ap (λ (ds : List Call). Line place ∷ ds) (plain_bare cs h)
plain_bare (Start style ∷ cs) h = ap (λ (ds : List Call). Start style ∷ ds) (plain_bare cs h)
plain_bare (Claim name place bytes answer ∷ cs) h = ap (λ (ds : List Call). Claim name place bytes answer ∷ ds) (plain_bare cs h)

-- ---- pieces

pub bare_colored : (o : Options) {ps qs : List Piece} → Recolored ps qs → IsPlainText (text_of (all_calls o qs)) → map bare_call (all_calls o ps) ≡ all_calls o qs
bare_colored o none h = refl
bare_colored o (same {p = p} {ps = ps} {qs = qs} k) h =
    let split : IsPlainText (text_of (calls o p) ++ text_of (all_calls o qs)) = subst IsPlainText (text_of-append (calls o p) (all_calls o qs)) h in
    bare-append (calls o p) (all_calls o ps)
    ∙ ap₂ (λ (cs ds : List Call). cs ++ ds) (plain_bare (calls o p) (front_plain (text_of (calls o p)) (text_of (all_calls o qs)) split))
    (bare_colored o k (after_plain (text_of (calls o p)) (text_of (all_calls o qs)) split))
bare_colored o (node cs {ps = ps} {qs = qs} k) h =
    ap₂ (λ (t : List ℕ) (ds : List Call). Text t ∷ ds) (colors_keep_text (Text (codes "(") ∷ cs) (front_plain (codes "(" ++ text_of cs) (text_of (all_calls o qs)) h))
    (bare_colored o k (after_plain (codes "(" ++ text_of cs) (text_of (all_calls o qs)) h))
