-- Layouts of parts, one after another.
use Rattle.std.specs.Prelude.{◌≡◌, ℕ, List, [], ◌∷◌, ◌++◌, Option, Some, None, refl}
use Rattle.std.proofs.Common.{sym, ap, ◌∙◌, append_assoc}
use Rattle.wasmprinter_spec.specs.Piece.{Piece}
use Rattle.wasmprinter_spec.specs.Layout.Customs.{Part, Shown, Stops, Laid, before_laid, laid_parts}

-- The layout that consists of pieces and then, unless they end in a refusal, of another layout.
abbrev pub laid_after : List Piece → Option ℕ → Laid → Laid
laid_after ps None l = before_laid ps l
laid_after ps (Some id) l = record { pieces = ps; refused = Some id }

before-after : (ps qs : List Piece) (refused : Option ℕ) (l : Laid) → before_laid ps (laid_after qs refused l) ≡ laid_after (ps ++ qs) refused l
before-after ps qs None l = ap (λ (xs : List Piece). record l { pieces = xs }) (sym (append_assoc ps qs l.pieces))
before-after ps qs (Some id) l = refl

-- The layout of two lists of parts, joined, is that of the first and, unless that is refused, that of the second.
pub joined-append : (xs ys : List Part) → laid_parts (xs ++ ys) ≡ laid_after (laid_parts xs).pieces (laid_parts xs).refused (laid_parts ys)
joined-append [] ys = refl
joined-append (Shown ps ∷ xs) ys = ap (before_laid ps) (joined-append xs ys) ∙ before-after ps (laid_parts xs).pieces (laid_parts xs).refused (laid_parts ys)
joined-append (Stops ps id ∷ xs) ys = refl
