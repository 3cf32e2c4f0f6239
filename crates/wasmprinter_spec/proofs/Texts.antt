-- The text of lists of calls, with ANSI escape sequences and without, and their lines: of joined lists, and of
-- lists that differ only in how text is split.
use Rattle.std.proofs.Common.{◌≡◌, ℕ, List, [], ◌∷◌, ◌++◌, map, refl, sym, ap, ap₂, ◌∙◌, append_assoc, append-nil}
use Rattle.wasmprinter_spec.specs.Call.{Call, Text, Newline, Line, Start, Claim, call_text, text_of, calls_of_bytes, atoms}
use Rattle.wasmprinter_spec.specs.Lines.{TextLine, text_before_line, lines_of}
use Rattle.wasmprinter_spec.specs.Colored.{colored_bytes, colored_text}

pub text_of-append : (k l : List Call) → text_of (k ++ l) ≡ text_of k ++ text_of l
text_of-append [] l = refl
text_of-append (c ∷ k) l = ap (λ t. call_text c ++ t) (text_of-append k l) ∙ sym (append_assoc (call_text c) (text_of k) (text_of l))

pub colored_text-append : (k l : List Call) → colored_text (k ++ l) ≡ colored_text k ++ colored_text l
colored_text-append [] l = refl
colored_text-append (c ∷ k) l = ap (λ t. colored_bytes c ++ t) (colored_text-append k l) ∙ sym (append_assoc (colored_bytes c) (colored_text k) (colored_text l))

bytes_text : (s : List ℕ) → text_of (map (λ b. Text (b ∷ [])) s) ≡ s
bytes_text [] = refl
bytes_text (b ∷ bs) = ap (λ t. b ∷ t) (bytes_text bs)

bytes_colored : (s : List ℕ) → colored_text (map (λ b. Text (b ∷ [])) s) ≡ s
bytes_colored [] = refl
bytes_colored (b ∷ bs) = ap (λ t. b ∷ t) (bytes_colored bs)

cut_text : (c : Call) → text_of (calls_of_bytes c) ≡ call_text c
cut_text (Text s) = bytes_text s
cut_text Newline = refl
cut_text (Line place) = refl
cut_text (Start style) = refl
cut_text (Claim name place bytes answer) = refl

cut_colored : (c : Call) → colored_text (calls_of_bytes c) ≡ colored_bytes c
cut_colored (Text s) = bytes_colored s
cut_colored Newline = refl
cut_colored (Line place) = refl
cut_colored (Start style) = append-nil (colored_bytes (Start style))
cut_colored (Claim name place bytes answer) = refl

text_of-atoms : (cs : List Call) → text_of (atoms cs) ≡ text_of cs
text_of-atoms [] = refl
text_of-atoms (c ∷ cs) = text_of-append (calls_of_bytes c) (atoms cs) ∙ ap₂ (λ x y. x ++ y) (cut_text c) (text_of-atoms cs)

colored_text-atoms : (cs : List Call) → colored_text (atoms cs) ≡ colored_text cs
colored_text-atoms [] = refl
colored_text-atoms (c ∷ cs) = colored_text-append (calls_of_bytes c) (atoms cs) ∙ ap₂ (λ x y. x ++ y) (cut_colored c) (colored_text-atoms cs)

-- Lists of calls that differ only in how text is split have the same text.
pub alike_texts : (k l : List Call) → atoms k ≡ atoms l → text_of k ≡ text_of l
alike_texts k l e = sym (text_of-atoms k) ∙ ap text_of e ∙ text_of-atoms l

-- If calls are a prefix of other calls, except for how text is split, their text is a prefix of the other text.
pub prefix_text : (k rest l : List Call) → atoms k ++ rest ≡ atoms l → text_of l ≡ text_of k ++ text_of rest
prefix_text k rest l e =
    sym (text_of-atoms l) ∙ ap text_of (sym e) ∙ text_of-append (atoms k) rest ∙ ap (λ t. t ++ text_of rest) (text_of-atoms k)

-- Lists of calls that differ only in how text is split have the same text with ANSI escape sequences.
pub alike_colored : (k l : List Call) → atoms k ≡ atoms l → colored_text k ≡ colored_text l
alike_colored k l e = sym (colored_text-atoms k) ∙ ap colored_text e ∙ colored_text-atoms l

-- ---- lines

bytes-before : (s : List ℕ) (k : List Call) → text_before_line (map (λ b. Text (b ∷ [])) s ++ k) ≡ s ++ text_before_line k
bytes-before [] k = refl
bytes-before (b ∷ s) k = ap (λ x. b ∷ x) (bytes-before s k)

bytes-lines : (s : List ℕ) (k : List Call) → lines_of (map (λ b. Text (b ∷ [])) s ++ k) ≡ lines_of k
bytes-lines [] k = refl
bytes-lines (b ∷ s) k = bytes-lines s k

before-atoms : (k : List Call) → text_before_line (atoms k) ≡ text_before_line k
before-atoms [] = refl
before-atoms (Text s ∷ k) = bytes-before s (atoms k) ∙ ap (λ x. s ++ x) (before-atoms k)
before-atoms (Line p ∷ k) = refl
before-atoms (c ∷ k) = ap (λ x. call_text c ++ x) (before-atoms k)

lines_of-atoms : (k : List Call) → lines_of (atoms k) ≡ lines_of k
lines_of-atoms [] = refl
lines_of-atoms (Text s ∷ k) = bytes-lines s (atoms k) ∙ lines_of-atoms k
lines_of-atoms (Line p ∷ k) =
    ap₂ (λ (t : List ℕ) (lines : List TextLine). (p, t) ∷ lines) (before-atoms k) (lines_of-atoms k)
lines_of-atoms (c ∷ k) = lines_of-atoms k

-- Lists of calls that differ only in how text is split have the same lines.
pub alike_lines : (k l : List Call) → atoms k ≡ atoms l → lines_of k ≡ lines_of l
alike_lines k l e = sym (lines_of-atoms k) ∙ ap lines_of e ∙ lines_of-atoms l
