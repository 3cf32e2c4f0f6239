-- The file that words name, found word by word.
use Rattle.std.specs.Prelude.{◌≡◌, List, [], ◌∷◌, ℕ, map, Bool, true, false, Option, Some, None, if◌then◌else◌, ◌||◌}
use Rattle.std.specs.List.{list_any, list_all}
use Rattle.std.proofs.Common.{refl, ap}
use Rattle.printwasm.specs.Words.{is_known, is_option, files, named_file}
use Rattle.wasmprinter_spec.specs.Text.Items.{the_only}

-- Some item's image passes a test exactly if some element of the list of images passes it.
pub any_of_map : {A B : Type 0} (test : B → Bool) (f : A → B) (xs : List A) → list_any (λ x. test (f x)) xs ≡ list_any test (map f xs)
any_of_map test f [] = refl
any_of_map test f (x ∷ xs) = ap (λ b. test (f x) || b) (any_of_map test f xs)

-- The file that all words name, if these are the remaining words and the words before them contain this file, or
-- no file.
abbrev pub named_after : Option (List ℕ) → List (List ℕ) → Option (List ℕ)
named_after None rest = named_file rest
named_after (Some file) rest = if list_all is_known rest then the_only (file ∷ files rest) else None

pub at_the_end : (file : Option (List ℕ)) → named_after file [] ≡ file
at_the_end None = refl
at_the_end (Some file) = refl

pub after_an_unknown_word : (file : Option (List ℕ)) (word : List ℕ) (rest : List (List ℕ)) → is_known word ≡ false → named_after file (word ∷ rest) ≡ None
after_an_unknown_word None word rest e = rw e refl
after_an_unknown_word (Some file) word rest e = rw e refl

known : (word : List ℕ) → is_option word ≡ false → is_known word ≡ true
known word e = rw e refl

pub after_an_option : (file : Option (List ℕ)) (word : List ℕ) (rest : List (List ℕ)) → is_known word ≡ true → is_option word ≡ true →
    named_after file (word ∷ rest) ≡ named_after file rest
after_an_option None word rest k o = rw k (rw o refl)
after_an_option (Some file) word rest k o = rw k (rw o refl)

pub after_a_file : (word : List ℕ) (rest : List (List ℕ)) → is_option word ≡ false → named_after None (word ∷ rest) ≡ named_after (Some word) rest
after_a_file word rest o = rw (known word o) (rw o refl)

no_second : (all_known : Bool) (first second : List ℕ) (rest : List (List ℕ)) → (if all_known then the_only (first ∷ second ∷ rest) else None) ≡ None
no_second true first second rest = refl
no_second false first second rest = refl

pub after_a_second_file : (file word : List ℕ) (rest : List (List ℕ)) → is_option word ≡ false → named_after (Some file) (word ∷ rest) ≡ None
after_a_second_file file word rest o = rw (known word o) (rw o (no_second (list_all is_known rest) file word (files rest)))
