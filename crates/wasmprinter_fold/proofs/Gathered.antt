-- The type indices of imported functions and tags, import by import.
use Rattle.std.proofs.Common.{◌≡◌, ℕ, ◌+◌, ◌<◌, ◌≤◌, get_or, drop, List, [], ◌∷◌, ◌++◌, length, Option, Some, None, append_assoc, append-nil, sym, ap, ◌∙◌}
use Rattle.std.proofs.Math.ListN.{drop_of_length-le}
use Rattle.std.proofs.lemmas.List.{at_drop_more}
use Rattle.wasmprinter_spec.specs.Grammar.{Placed}
use Rattle.wasmprinter_spec.specs.Types.{ExternType}
use Rattle.wasmprinter_spec.specs.Placed.{Import}
use Rattle.wasmprinter_spec.specs.Module.{without_places, imported_types, with_first_if_any}

-- The type indices of the imports from number i on.
abbrev pub imported_from : (ExternType → Option ℕ) → List (Placed Import) → ℕ → List ℕ
imported_from f is i = imported_types f (without_places (drop i is))

-- The list `xs` has the type indices of the imports before number i.
abbrev pub Gathers : (ExternType → Option ℕ) → List (Placed Import) → List ℕ → ℕ → Type 0
Gathers f is xs i = xs ++ imported_from f is i ≡ imported_types f (without_places is)

module _ (f : ExternType → Option ℕ) (is : List (Placed Import)) (i : ℕ) where
  -- After the last import, the list has the type indices of all imports.
  pub gathered : (xs : List ℕ) → length is ≤ i → Gathers f is xs i → xs ≡ imported_types f (without_places is)
  gathered xs le all = sym (append-nil xs) ∙ ap (λ (ys : List (Placed Import)). xs ++ imported_types f (without_places ys)) (sym (drop_of_length-le is le)) ∙ all

  module _ (x d : Placed Import) (lt : i < length is) (same : x ≡ get_or is i d) where
    next : imported_from f is i ≡ with_first_if_any (f x.value.type) (imported_from f is (i + 1))
    next =
        at_drop_more (λ (ys : List (Placed Import)). imported_types f (without_places ys)) is i d lt
        ∙ ap (λ (y : Placed Import). with_first_if_any (f y.value.type) (imported_from f is (i + 1))) (sym same)

    -- If the next import is of the kind, its type index is added to the list.
    pub gathers_one : (t : ExternType) (n : ℕ) (xs : List ℕ) → t ≡ x.value.type → f t ≡ Some n → Gathers f is xs i → Gathers f is (xs ++ n ∷ []) (i + 1)
    gathers_one t n xs e s all =
        append_assoc xs (n ∷ []) (imported_from f is (i + 1))
        ∙ ap (λ (o : Option ℕ). xs ++ with_first_if_any o (imported_from f is (i + 1))) (sym s ∙ ap f e)
        ∙ ap (λ (ys : List ℕ). xs ++ ys) (sym next) ∙ all

    -- If the next import is of another kind, the list stays as it is.
    pub gathers_other : (t : ExternType) (xs : List ℕ) → t ≡ x.value.type → f t ≡ None → Gathers f is xs i → Gathers f is xs (i + 1)
    gathers_other t xs e s all =
        ap (λ (o : Option ℕ). xs ++ with_first_if_any o (imported_from f is (i + 1))) (sym s ∙ ap f e) ∙ ap (λ (ys : List ℕ). xs ++ ys) (sym next) ∙ all
