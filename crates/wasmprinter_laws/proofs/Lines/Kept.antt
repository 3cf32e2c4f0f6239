-- Lists of lines without those that have some places.
use Rattle.std.proofs.Common.{◌≡◌, ℕ, zero, suc, List, [], ◌∷◌, ◌++◌, Bool, true, false, cond, ◌==◌, Option, Some, refl, sym, ap, ◌∙◌, subst}
use Rattle.std.specs.Prelude.{slice_get}
use Rattle.std.specs.List.{AllByRecursion}
use Rattle.std.proofs.lemmas.Bool.{eq-eqb, ne_eqb, or_left, or_right, or_from}
use Rattle.wasmprinter_spec.specs.Lines.{is_among, lines_without}

-- If a line has one of the places, it is left out; otherwise it is kept.
pub kept_out : (ps : List ℕ) (x : Option ℕ) (xs : List (Option ℕ)) → is_among ps x ≡ true → lines_without ps (x ∷ xs) ≡ lines_without ps xs
kept_out ps x xs e = ap (λ (b : Bool). cond b (lines_without ps xs) (x ∷ lines_without ps xs)) e

pub kept_in : (ps : List ℕ) (x : Option ℕ) (xs : List (Option ℕ)) → is_among ps x ≡ false → lines_without ps (x ∷ xs) ≡ x ∷ lines_without ps xs
kept_in ps x xs e = ap (λ (b : Bool). cond b (lines_without ps xs) (x ∷ lines_without ps xs)) e

step : (b : Bool) (x : Option ℕ) (xs ys zs : List (Option ℕ)) → zs ≡ xs ++ ys → cond b zs (x ∷ zs) ≡ cond b xs (x ∷ xs) ++ ys
step true x xs ys zs e = e
step false x xs ys zs e = ap (λ (ls : List (Option ℕ)). x ∷ ls) e

-- Leaving out lines of two joined lists leaves out the lines of each.
pub lines_without-append : (ps : List ℕ) (xs ys : List (Option ℕ)) → lines_without ps (xs ++ ys) ≡ lines_without ps xs ++ lines_without ps ys
lines_without-append ps [] ys = refl
lines_without-append ps (x ∷ xs) ys = step (is_among ps x) x (lines_without ps xs) (lines_without ps ys) (lines_without ps (xs ++ ys)) (lines_without-append ps xs ys)

-- No line has one of these places.
abbrev pub AreNone : List ℕ → List (Option ℕ) → Type 0
AreNone ps xs = AllByRecursion (λ x. is_among ps x ≡ false) xs

-- If no line has one of the places, all lines are kept.
pub all_kept : (ps : List ℕ) (xs : List (Option ℕ)) → AreNone ps xs → lines_without ps xs ≡ xs
all_kept ps [] h = refl
all_kept ps (x ∷ xs) h = kept_in ps x xs h.0 ∙ ap (λ (ls : List (Option ℕ)). x ∷ ls) (all_kept ps xs h.1)

-- Every line that is kept occurs in the list.
there_of : (b : Bool) (x : Option ℕ) (xs ys : List (Option ℕ)) (n : ℕ) (y : Option ℕ) → ((k : ℕ) → slice_get ys k ≡ Some y → (j : ℕ) × (slice_get xs j ≡ Some y)) →
    slice_get (cond b ys (x ∷ ys)) n ≡ Some y → (j : ℕ) × (slice_get (x ∷ xs) j ≡ Some y)
there_of true x xs ys n y rest e = let r = rest n e in (suc r.0, r.1)
there_of false x xs ys zero y rest e = (0, e)
there_of false x xs ys (suc n) y rest e = let r = rest n e in (suc r.0, r.1)

pub there : (ps : List ℕ) (xs : List (Option ℕ)) (n : ℕ) (y : Option ℕ) → slice_get (lines_without ps xs) n ≡ Some y → (j : ℕ) × (slice_get xs j ≡ Some y)
there ps [] n y e = absurd cc
there ps (x ∷ xs) n y e = there_of (is_among ps x) x xs (lines_without ps xs) n y (λ k f. there ps xs k y f) e

-- ---- which places are among other places

pub all_map : {A : Type 0} (P Q : A → Type 0) → ((x : A) → P x → Q x) → (xs : List A) → AllByRecursion P xs → AllByRecursion Q xs
all_map P Q f [] h = tt
all_map P Q f (x ∷ xs) h = (f x h.0, all_map P Q f xs h.1)

-- If the other places have a property that a place does not have, that place is not among them.
pub none_among : (P : ℕ → Type 0) (x : ℕ) → (P x → ⊥) → (ps : List ℕ) → AllByRecursion P ps → is_among ps (Some x) ≡ false
none_among P x not [] h = refl
none_among P x not (p ∷ ps) h =
    or_from (x == p) (is_among ps (Some x)) (ne_eqb x p (λ e. not (subst P (sym e) h.0))) (none_among P x not ps h.1)

-- Each place of a list is among the places of that list.
pub each_among : (ps : List ℕ) → AllByRecursion (λ p. is_among ps (Some p) ≡ true) ps
each_among [] = tt
each_among (p ∷ ps) = (
  or_left (p == p) (is_among ps (Some p)) (eq-eqb p p refl),
  all_map (λ x. is_among ps (Some x) ≡ true) (λ x. is_among (p ∷ ps) (Some x) ≡ true) (λ x e. or_right (x == p) (is_among ps (Some x)) e) ps (each_among ps),
)
