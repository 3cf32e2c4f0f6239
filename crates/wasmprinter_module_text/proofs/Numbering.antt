-- Lists of fields, each with its number.
use Rattle.std.specs.Prelude.{◌≡◌, ℕ, suc, ◌+◌, ◌<◌, ◌≤◌, drop, List, [], ◌∷◌, ◌++◌, length}
use Rattle.std.proofs.Common.{sym, ap, ◌∙◌, add-one, drop-cons, get_or, arith}
use Rattle.std.proofs.lemmas.List.{drop_all}
use Rattle.wasmprinter_spec.specs.Piece.{Piece}
use Rattle.wasmprinter_spec.specs.Layout.Groups.{numbered_pieces}

module _ {A : Type 0} (f : ℕ → A → List Piece) where
  one : (n : ℕ) (xs rest : List A) (x : A) → xs ≡ x ∷ rest → numbered_pieces f n xs ≡ f n x ++ numbered_pieces f (n + 1) rest
  unfolding numbered_pieces
  one n xs rest x e = ap (numbered_pieces f n) e

  nothing : (n : ℕ) (xs : List A) → xs ≡ [] → numbered_pieces f n xs ≡ []
  unfolding numbered_pieces
  nothing n xs e = ap (numbered_pieces f n) e

  -- The pieces after the first i items are those of item i and those of the items after it. Item i has the number
  -- of the first item plus i.
  pub numbered_pieces-next : (first i : ℕ) (xs : List A) (x : A) → i < length xs → x ≡ get_or xs i x →
      numbered_pieces f (first + i) (drop i xs) ≡ f (first + i) x ++ numbered_pieces f (first + (i + 1)) (drop (i + 1) xs)
  numbered_pieces-next first i xs x h e =
      let step : drop i xs ≡ x ∷ drop (i + 1) xs = rw (add-one, drop-cons xs i x h) (ap (λ y. y ∷ drop (suc i) xs) (sym e)) in
      let number : (first + i) + 1 ≡ first + (i + 1) = omega (arith) in
      one (first + i) (drop i xs) (drop (i + 1) xs) x step ∙ ap (λ k. f (first + i) x ++ numbered_pieces f k (drop (i + 1) xs)) number

  -- If there are at most i items, no piece is left after the first i.
  pub numbered_pieces-none : (n i : ℕ) (xs : List A) → length xs ≤ i → numbered_pieces f n (drop i xs) ≡ []
  numbered_pieces-none n i xs h = nothing n (drop i xs) (drop_all i xs h)
