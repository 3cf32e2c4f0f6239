-- A text that is repeated `n` times.
use Rattle.std.specs.Prelude.{◌≡◌, ℕ, zero, suc, ◌+◌, ◌-◌, ◌*◌, ◌<◌, ◌≤◌, List, [], ◌∷◌, ◌++◌, codes, take, replicate, Option, Some, None, IfSome}
use Rattle.std.specs.Borrow.{Bor}
use Rattle.std.specs.List.{slice_range}
use Rattle.std.specs.Str.Pattern.{GetsRange}
use Rattle.std.proofs.Common.{refl, ap, sym, ◌∙◌, arith}
use Rattle.std.proofs.lemmas.List.{take-replicate}
use Rattle.wasmprinter_spec.specs.Piece.{repetition_of}

repetition_of-suc : (n k : ℕ) (text : List ℕ) → n ≡ suc k → repetition_of n text ≡ text ++ repetition_of k text
unfolding repetition_of
repetition_of-suc n k text e = rw e refl

repetition_of-zero : (n : ℕ) (text : List ℕ) → n ≡ 0 → repetition_of n text ≡ []
unfolding repetition_of
repetition_of-zero n text e = rw e refl

-- The repetitions left after `i` of `n` are the text once, then those left after `i + 1`.
pub repetition_of-next : (n i : ℕ) (text : List ℕ) → i < n → repetition_of (n - i) text ≡ text ++ repetition_of (n - (i + 1)) text
repetition_of-next n i text h = repetition_of-suc (n - i) (n - (i + 1)) text (omega arith)

-- After all repetitions nothing is left.
pub repetition_of-none : (n i : ℕ) (text : List ℕ) → n ≤ i → repetition_of (n - i) text ≡ []
repetition_of-none n i text h = repetition_of-zero (n - i) text (omega arith)

-- One space repeated `n` times is `n` spaces.
pub repeated_space : (n : ℕ) → repetition_of n (32 ∷ []) ≡ replicate n 32
unfolding repetition_of
repeated_space zero = refl
repeated_space (suc n) = ap (λ x. 32 ∷ x) (repeated_space n)

-- Two spaces repeated `n` times are `2 * n` spaces.
repeated_spaces : (n : ℕ) → repetition_of n (codes "  ") ≡ replicate (2 * n) 32
unfolding repetition_of
repeated_spaces zero = refl
repeated_spaces (suc n) = let e : 2 * suc n ≡ suc (suc (2 * n)) = omega arith in rw (repeated_spaces n, e) refl

-- The first `2 * n` of 100 spaces are two spaces repeated `n` times.
pub spaces_range : (n : ℕ) → n ≤ 50 → slice_range (replicate 100 32) 0 (2 * n) ≡ repetition_of n (codes "  ")
spaces_range n h =
    let e : 2 * n - 0 ≡ 2 * n = omega arith in
    let front : take (2 * n) (replicate 100 32) ≡ replicate (2 * n) 32 = take-replicate (2 * n) 100 32 (omega arith) in
    (rw e front) ∙ sym (repeated_spaces n)

-- If a range of `2 * n` of 100 spaces is returned, then it is two spaces repeated `n` times.
pub gets_spaces : (r : Option (Bor (List ℕ))) (n : ℕ) → n ≤ 50 → GetsRange (replicate 100 32) 0 (2 * n) r → IfSome r (λ t. t.now ≡ repetition_of n (codes "  "))
gets_spaces None n h g = tt
gets_spaces (Some t) n h g = g.0 ∙ spaces_range n h
