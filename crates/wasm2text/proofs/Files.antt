-- Printing files one after the other, and reporting failures.
use Rattle.std.specs.Prelude.{◌≡◌, ℕ, ◌+◌, ◌<◌, ◌≤◌, List, [], ◌∷◌, ◌++◌, map, length, max, Option, Bool, true, false}
use Rattle.std.proofs.Common.{refl, sym, ◌∙◌, subst, drop, get_or, inl, inr}
use Rattle.std.proofs.lemmas.List.{drop_more, drop_all}
use denote.Ref.{Bor}
use Rattle.wasm2text.specs.declared.printing.Ended.{Ended}
use Rattle.wasm2text.specs.declared.printing.Ended.TheVariants.{Printed, Refused, Unwritten}
use Rattle.wasm2text.specs.Messages.{Failure}
use Rattle.wasm2text.specs.Outcome.{Series, one_of, EndsAs, IsNoted, PrintsEach, write_failures, Reports, status_of}

-- Failures were reported, and then others.
pub reports_both : {V : Type 0} (sends : V → Option (List ℕ) → V → Type 0) (old next new : V) (some others : List Failure) →
    Reports sends old some next → Reports sends next others new → Reports sends old (some ++ others) new
reports_both sends old next new [] others a b = subst (λ x. Reports sends x others new) a b
reports_both sends old next new (f ∷ some) others a b = (a.0, a.1, reports_both sends a.0 next new some others a.2 b)

-- The status of failures and of others.
pub status_both : (some others : List Failure) → status_of (some ++ others) ≡ max (status_of some) (status_of others)
status_both [] [] = refl
status_both [] (g ∷ others) = refl
status_both (f ∷ some) [] = refl
status_both (f ∷ some) (g ∷ others) = refl

-- What was printed of the first files, so that printing the other files completes printing all files.
abbrev pub Completes : {I W : Type 0} → Series I W → I → W → List (List ℕ) → (List Failure → I → W → Type 0) → Type 0
Completes {I} {W} p read next files All = (others : List Failure) (after : I) (new : W) → PrintsEach p read next files others after new → All others after new

-- If files are printed after a file, the others remain.
pub completes_next : {I W : Type 0} (p : Series I W) (i j : I) (s t : W) (file : List ℕ) (files : List (List ℕ)) (All : List Failure → I → W → Type 0)
    (ended : Ended) (failures : List Failure) (goes_on : Bool) → goes_on ≡ true → Completes p i s (file ∷ files) All → EndsAs (one_of p i j) s file ended t →
    IsNoted ended file (p.out.uncreated t) failures goes_on → Completes p j t files (λ others after new. All (failures ++ others) after new)
completes_next p i j s t file files All Printed failures goes_on goes c is noted others after new h =
    rw noted.0 (c others after new (inl (j, t, is, h)))
completes_next p i j s t file files All (Refused cause) failures goes_on goes c is noted others after new h =
    rw noted.0 (c (record { name = file; cause = cause } ∷ others) after new (inr (inl (cause, j, t, others, is.0, is.1, refl, h))))
completes_next p i j s t file files All (Unwritten error) failures goes_on goes c is noted others after new h =
    absurd (let both : true ≡ false = sym goes ∙ noted.1 in cc)

-- If no file is printed after a file, it is the last one.
pub completes_last : {I W : Type 0} (p : Series I W) (i j : I) (s t : W) (file : List ℕ) (files : List (List ℕ)) (All : List Failure → I → W → Type 0)
    (ended : Ended) (failures : List Failure) (goes_on : Bool) → goes_on ≡ false → Completes p i s (file ∷ files) All → EndsAs (one_of p i j) s file ended t →
    IsNoted ended file (p.out.uncreated t) failures goes_on → All failures j t
completes_last p i j s t file files All Printed failures goes_on stays c is noted = absurd (let both : true ≡ false = sym noted.1 ∙ stays in cc)
completes_last p i j s t file files All (Refused cause) failures goes_on stays c is noted = absurd (let both : true ≡ false = sym noted.1 ∙ stays in cc)
completes_last p i j s t file files All (Unwritten error) failures goes_on stays c is noted =
    rw noted.0 (c (write_failures file (p.out.uncreated t) error) j t (inr (inr (error, is, refl))))

-- If files are printed after the one at this index, those after it remain.
pub next_file : {I W : Type 0} (p : Series I W) (i j : I) (s t : W) (names : List (Bor (List ℕ))) (n : ℕ) (d : Bor (List ℕ))
    (All : List Failure → I → W → Type 0) (ended : Ended) (failures : List Failure) (goes_on : Bool) → n < length names → goes_on ≡ true →
    Completes p i s (map (λ (f : Bor (List ℕ)). f.now) (drop n names)) All → EndsAs (one_of p i j) s (get_or names n d).now ended t →
    IsNoted ended (get_or names n d).now (p.out.uncreated t) failures goes_on →
    Completes p j t (map (λ (f : Bor (List ℕ)). f.now) (drop (n + 1) names)) (λ others after new. All (failures ++ others) after new)
next_file p i j s t names n d All ended failures goes_on inside goes c is noted =
    completes_next p i j s t (get_or names n d).now (map (λ (f : Bor (List ℕ)). f.now) (drop (n + 1) names)) All ended failures goes_on goes
    (subst (λ (l : List (Bor (List ℕ))). Completes p i s (map (λ (f : Bor (List ℕ)). f.now) l) All) (drop_more names n d inside) c) is noted

-- If no file is printed after the one at this index, it is the last one.
pub last_file : {I W : Type 0} (p : Series I W) (i j : I) (s t : W) (names : List (Bor (List ℕ))) (n : ℕ) (d : Bor (List ℕ))
    (All : List Failure → I → W → Type 0) (ended : Ended) (failures : List Failure) (goes_on : Bool) → n < length names → goes_on ≡ false →
    Completes p i s (map (λ (f : Bor (List ℕ)). f.now) (drop n names)) All → EndsAs (one_of p i j) s (get_or names n d).now ended t →
    IsNoted ended (get_or names n d).now (p.out.uncreated t) failures goes_on → All failures j t
last_file p i j s t names n d All ended failures goes_on inside stays c is noted =
    completes_last p i j s t (get_or names n d).now (map (λ (f : Bor (List ℕ)). f.now) (drop (n + 1) names)) All ended failures goes_on stays
    (subst (λ (l : List (Bor (List ℕ))). Completes p i s (map (λ (f : Bor (List ℕ)). f.now) l) All) (drop_more names n d inside) c) is noted

-- If no file remains, all were printed.
pub all_files : {I W : Type 0} (p : Series I W) (i : I) (s : W) (names : List (Bor (List ℕ))) (n : ℕ) (All : List Failure → I → W → Type 0) → length names ≤ n →
    Completes p i s (map (λ (f : Bor (List ℕ)). f.now) (drop n names)) All → All [] i s
all_files p i s names n All past c =
    let rest : Completes p i s [] All =
    subst (λ (l : List (Bor (List ℕ))). Completes p i s (map (λ (f : Bor (List ℕ)). f.now) l) All) (drop_all n names past) c in
    rest [] i s (refl, refl, refl)
