-- The ANSI escape sequences for colors (Select Graphic Rendition of ECMA-48), and a text without them.
use Rattle.std.specs.Prelude.{ℕ, zero, suc, ◌+◌, List, [], ◌∷◌, ◌++◌, cond, nat_eq, codes, decimal, length, map}
use Rattle.std.specs.List.{starts_with}

-- The numbers of red, green, yellow, magenta and cyan.
abbrev pub colors : List ℕ
colors = 1 ∷ 2 ∷ 3 ∷ 5 ∷ 6 ∷ []

-- The bytes ESC and `[`.
abbrev pub introducer : List ℕ
introducer = 27 ∷ 91 ∷ []

-- The sequences: reset; bold; each color; each intense color.
abbrev pub sequences : List (List ℕ)
sequences =
    (introducer ++ codes "0m") ∷ (introducer ++ codes "1m")
    ∷ (map (λ c. introducer ++ (codes "3" ++ (decimal c ++ codes "m"))) colors
    ++ map (λ c. introducer ++ (codes "38;5;" ++ (decimal (8 + c) ++ codes "m"))) colors)

-- The length of the sequence with which a text begins, or 0 if it begins with no sequence.
abbrev pub sequence_length_in : List (List ℕ) → List ℕ → ℕ
sequence_length_in [] text = 0
sequence_length_in (s ∷ ss) text = cond (starts_with nat_eq text s) (length s) (sequence_length_in ss text)

-- The length of the ANSI escape sequence with which the text begins, or 0 if it begins with no sequence.
abbrev pub sequence_length : List ℕ → ℕ
sequence_length text = sequence_length_in sequences text

-- The text without sequences, from the byte b on. The first argument is the length of the sequence that begins with
-- b, or 0. `rest k` is the text after b, without its next k bytes and then without each sequence.
abbrev pub uncolor_step : ℕ → ℕ → (ℕ → List ℕ) → List ℕ
uncolor_step zero b rest = b ∷ rest 0
uncolor_step (suc k) b rest = rest k

-- The text without its next n bytes and then without each sequence, from left to right.
abbrev pub uncolor_after : ℕ → List ℕ → List ℕ
uncolor_after n [] = []
uncolor_after (suc n) (b ∷ bs) = uncolor_after n bs
uncolor_after zero (b ∷ bs) = uncolor_step (sequence_length (b ∷ bs)) b (λ k. uncolor_after k bs)

-- The text with all ANSI escape sequences deleted, from left to right.
abbrev pub uncolor : List ℕ → List ℕ
uncolor text = uncolor_after 0 text
