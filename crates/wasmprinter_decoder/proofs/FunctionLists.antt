-- The function with a given number, from the list of type indices and the list of bodies.
use Rattle.std.proofs.Common.{◌≡◌, ℕ, zero, suc, ◌<◌, get_or, List, [], ◌∷◌, length, Some, refl, ap, ◌∙◌, arith}
use Rattle.std.specs.Prelude.{slice_get}
use Rattle.wasmprinter_spec.specs.Grammar.{Placed}
use Rattle.wasmprinter_spec.specs.Placed.{Body}
use Rattle.wasmprinter_decoder.specs.Modules.{functions_of}
use Rattle.wasmprinter_decoder.proofs.Pairing.{pairs_of}

-- The functions of two nonempty lists are the first type index with the first body, then those of the tails.
functions-cons : (i : ℕ) (is : List ℕ) (b : Placed Body) (bs : List (Placed Body)) → length is ≡ length bs →
    functions_of (i ∷ is) (b ∷ bs) ≡ record { type_index = i; body = b } ∷ functions_of is bs
functions-cons i is b bs e = let p = pairs_of is bs e in rw p.are refl

-- The function with number `n` has the type index and the body with number `n`.
pub function-at : (is : List ℕ) (bs : List (Placed Body)) (n d : ℕ) (c : Placed Body) → length is ≡ length bs → n < length is →
    slice_get (functions_of is bs) n ≡ Some (record { type_index = get_or is n d; body = get_or bs n c })
function-at [] bs n d c e h = absurd (omega arith)
function-at (i ∷ is) [] n d c e h = absurd (omega arith)
function-at (i ∷ is) (b ∷ bs) zero d c e h = ap (λ fs. slice_get fs 0) (functions-cons i is b bs (omega arith))
function-at (i ∷ is) (b ∷ bs) (suc n) d c e h =
    ap (λ fs. slice_get fs (suc n)) (functions-cons i is b bs (omega arith)) ∙ function-at is bs n d c (omega arith) (omega arith)
