-- Lengths of lists of which each item represents another.
use Rattle.std.proofs.Common.{◌≡◌, ℕ, ◌+◌, List, [], ◌∷◌, map, length, refl, sym, ap, ◌∙◌}
use Rattle.std.proofs.lemmas.List.{length-map}
use Rattle.wasmprinter_hidden.specs.Lengths.{unsigned_len, items_len, list_len}

pub items_len-map : {A B : Type 0} (len : B → ℕ) (f : A → B) (xs : List A) → items_len len (map f xs) ≡ items_len (λ x. len (f x)) xs
items_len-map len f [] = refl
items_len-map len f (x ∷ xs) = ap (λ n. len (f x) + n) (items_len-map len f xs)

list_len-map : {A B : Type 0} (len : B → ℕ) (f : A → B) (xs : List A) → list_len len (map f xs) ≡ list_len (λ x. len (f x)) xs
list_len-map len f xs = ap (λ n. unsigned_len n + items_len len (map f xs)) (length-map xs f) ∙ ap (λ n. unsigned_len (length xs) + n) (items_len-map len f xs)

-- A list has the length of the list that it represents.
pub list_len-view : {A B : Type 0} (len : B → ℕ) (f : A → B) (xs : List A) (ys : List B) → map f xs ≡ ys → list_len (λ x. len (f x)) xs ≡ list_len len ys
list_len-view len f xs ys is = sym (list_len-map len f xs) ∙ ap (list_len len) is
