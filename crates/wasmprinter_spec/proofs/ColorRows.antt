-- Worked rows of texts whose ANSI escape sequences are deleted.
use Rattle.std.specs.Prelude.{◌≡◌, [], ◌∷◌, ◌++◌, codes, refl}
use Rattle.std.specs.Fmt.{digits}
use Rattle.wasmprinter_spec.specs.Color.{uncolor}
use Rattle.wasmprinter_spec.proofs.Sequences.{escape}

no_sequence : uncolor (codes "(module)\n") ≡ codes "(module)\n"
unfolding digits
no_sequence = refl

-- The text that a printer with colors writes for the module without fields
empty_module : uncolor (codes "(" ++ escape (codes "0m") ++ escape (codes "1m") ++ escape (codes "38;5;11m") ++ codes "module" ++ escape (codes "0m") ++ codes ")\n") ≡ codes "(module)\n"
unfolding digits
empty_module = refl

reset_and_bold : uncolor (escape (codes "0m") ++ codes "a" ++ escape (codes "1m")) ≡ codes "a"
unfolding digits
reset_and_bold = refl

-- Red, green, yellow, magenta, cyan
five_colors : uncolor (escape (codes "31m") ++ codes "r" ++ escape (codes "32m") ++ codes "g" ++ escape (codes "33m") ++ codes "y" ++ escape (codes "35m") ++ codes "m" ++ escape (codes "36m") ++ codes "c") ≡ codes "rgymc"
unfolding digits
five_colors = refl

intense_colors : uncolor (escape (codes "38;5;9m") ++ codes "r" ++ escape (codes "38;5;10m") ++ codes "g" ++ escape (codes "38;5;11m") ++ codes "y" ++ escape (codes "38;5;13m") ++ codes "m" ++ escape (codes "38;5;14m") ++ codes "c") ≡ codes "rgymc"
unfolding digits
intense_colors = refl

-- Black, blue and white, plain or intense, are not among the deleted colors.
other_colors_stay : uncolor (escape (codes "30m") ++ escape (codes "34m") ++ escape (codes "37m") ++ escape (codes "38;5;8m") ++ escape (codes "38;5;12m") ++ escape (codes "38;5;15m"))
    ≡ escape (codes "30m") ++ escape (codes "34m") ++ escape (codes "37m") ++ escape (codes "38;5;8m") ++ escape (codes "38;5;12m") ++ escape (codes "38;5;15m")
unfolding digits
other_colors_stay = refl

other_sequences_stay : uncolor (escape (codes "4m") ++ escape (codes "m") ++ escape (codes "00m") ++ escape (codes "01m") ++ escape (codes "0;1m") ++ escape (codes "38;5;1m"))
    ≡ escape (codes "4m") ++ escape (codes "m") ++ escape (codes "00m") ++ escape (codes "01m") ++ escape (codes "0;1m") ++ escape (codes "38;5;1m")
unfolding digits
other_sequences_stay = refl

cut_sequences_stay : uncolor (codes "a" ++ 27 ∷ codes "b" ++ escape (codes "0 m") ++ escape (codes "0")) ≡ codes "a" ++ 27 ∷ codes "b" ++ escape (codes "0 m") ++ escape (codes "0")
unfolding digits
cut_sequences_stay = refl

-- A sequence directly after an escape character that starts no sequence
after_escape : uncolor (27 ∷ escape (codes "0m") ++ codes "a") ≡ 27 ∷ codes "a"
unfolding digits
after_escape = refl

-- Bytes that a deletion joins are not examined again.
brought_together : uncolor (escape (codes "3") ++ escape (codes "1m") ++ codes "1m") ≡ escape (codes "31m")
unfolding digits
brought_together = refl

neighbours : uncolor (escape (codes "0m") ++ escape (codes "0m") ++ escape (codes "31m")) ≡ []
unfolding digits
neighbours = refl
