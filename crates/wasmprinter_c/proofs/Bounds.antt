-- If the bytes of a module's text can be counted, its lines can be counted.
use Rattle.std.proofs.Common.{◌≡◌, ℕ, ◌+◌, ◌≤◌, List, [], ◌∷◌, ◌++◌, length, refl, sym, subst, length-append, le_refl, arith, true≢false}
use Rattle.std.specs.Prelude.{Bool, true, false, Option, Some, None, codes}
use Rattle.wasmprinter_spec.specs.Call.{Call, Text, Newline, Line, Start, Claim, text_of}
use Rattle.wasmprinter_spec.specs.Names.{Names}
use Rattle.wasmprinter_spec.specs.ModuleNames.{module_names}
use Rattle.wasmprinter_spec.specs.Placed.{PlacedModule}
use Rattle.wasmprinter_spec.specs.Options.{Options, Answers}
use Rattle.wasmprinter_spec.specs.Piece.{Piece, all_calls}
use Rattle.wasmprinter_spec.specs.Layout.{module_parts, module_pieces_of, module_pieces_with, module_pieces, layout}
use Rattle.wasmprinter_spec.specs.Layout.Customs.{Laid, laid_parts}
use Rattle.wasmprinter_spec.specs.Layout.Groups.{group_at}
use Rattle.wasmprinter_laws.proofs.Lines.Fed.{Fed, layout_fed}
use Rattle.wasmprinter_c.specs.Events.{line_event, events}

-- The bound on the number of lines for a text of n bytes. It is one more if a line feed is before the calls.
abbrev bound : Bool → ℕ → ℕ
bound true n = n + 1
bound false n = n

below_bound : (after_feed : Bool) (n m : ℕ) → n ≤ m → n ≤ bound after_feed m
below_bound true n m h = omega (arith, h)
below_bound false n m h = h

below_sum : (n m k l : ℕ) → n ≤ m → l ≡ k + m → n ≤ l
below_sum n m k l h e = omega (arith, h, e)

below_next : (n m l : ℕ) → n ≤ m + 1 → l ≡ m + 1 → n ≤ l
below_next n m l h e = omega (arith, h, e)

next_below : (n m l : ℕ) → n ≤ m → l ≡ n + 1 → l ≤ m + 1
next_below n m l h e = omega (arith, h, e)

length-cons : {A : Type 0} (x : A) (xs : List A) → length (x ∷ xs) ≡ length xs + 1
length-cons x xs = omega arith

-- Calls start at most as many lines as their text has bytes, or one more if a line feed is before them.
few_lines : (after_feed : Bool) (at : ℕ) (cs : List Call) → Fed after_feed cs → length (events false at cs) ≤ bound after_feed (length (text_of cs))
few_lines after_feed at [] h = below_bound after_feed 0 0 (le_refl 0)
few_lines after_feed at (Text s ∷ cs) h =
    below_bound after_feed (length (events false (at + length s) cs)) (length (s ++ text_of cs))
    (below_sum (length (events false (at + length s) cs)) (length (text_of cs)) (length s) (length (s ++ text_of cs)) (few_lines false (at + length s) cs h) (length-append s (text_of cs)))
few_lines after_feed at (Newline ∷ cs) h =
    below_bound after_feed (length (events false (at + 1) cs)) (length (10 ∷ text_of cs))
    (below_next (length (events false (at + 1) cs)) (length (text_of cs)) (length (10 ∷ text_of cs)) (few_lines true (at + 1) cs h) (length-cons 10 (text_of cs)))
few_lines true at (Line place ∷ cs) h =
    next_below (length (events false at cs)) (length (text_of cs)) (length (line_event place at ∷ events false at cs)) (few_lines false at cs h.1) (length-cons (line_event place at) (events false at cs))
few_lines false at (Line place ∷ cs) h = absurd (true≢false (sym h.0))
few_lines after_feed at (Start style ∷ cs) h = below_bound after_feed (length (events false at cs)) (length (text_of cs)) (few_lines false at cs h)
few_lines after_feed at (Claim name place bytes answer ∷ cs) h = below_bound after_feed (length (events false at cs)) (length (text_of cs)) (few_lines false at cs h)

-- The calls start a line and write a parenthesis.
record HasStart (cs : List Call) : Type 0 where
  place : Option ℕ
  rest : List Call
  is : cs ≡ Line place ∷ (Text (codes "(") ∷ rest)

module_start : (o : Options) (names : Names) (size : ℕ) (ps : List Piece) (refused : Option ℕ) → HasStart (all_calls o (module_pieces_of o names size ps refused))
unfolding group_at
module_start o names size ps None = record { place = Some 0; rest = _; is = refl }
module_start o names size ps (Some id) = record { place = Some 0; rest = _; is = refl }

layout_start : (o : Options) (answers : Answers) (m : PlacedModule) → HasStart (layout o answers m)
unfolding layout module_pieces module_pieces_with
layout_start o answers m =
    let names : Names = module_names o.synthesizes m in
    let laid : Laid = laid_parts (module_parts o answers names m) in
    module_start o names m.size laid.pieces laid.refused

first_line : (n m k l : ℕ) → n ≤ m → k ≡ n + 1 → l ≡ 1 + m → k ≤ l
first_line n m k l h e f = omega (arith, h, e, f)

started_lines : (cs : List Call) → HasStart cs → Fed true cs → length (events false 0 cs) ≤ length (text_of cs)
started_lines cs s h =
    subst (λ (ds : List Call). length (events false 0 ds) ≤ length (text_of ds)) (sym s.is) (few s.place s.rest (subst (Fed true) s.is h))
  where
    few : (place : Option ℕ) (rest : List Call) → Fed true (Line place ∷ (Text (codes "(") ∷ rest)) →
        length (events false 0 (Line place ∷ (Text (codes "(") ∷ rest))) ≤ length (text_of (Line place ∷ (Text (codes "(") ∷ rest)))
    few place rest h =
        first_line (length (events false (0 + length (codes "(")) rest)) (length (text_of rest)) (length (line_event place 0 ∷ events false (0 + length (codes "(")) rest))
        (length (codes "(" ++ text_of rest)) (few_lines false (0 + length (codes "(")) rest h.1) (length-cons (line_event place 0) (events false (0 + length (codes "(")) rest))
        (length-append (codes "(") (text_of rest))

-- A module has at most as many lines as its text has bytes.
pub layout_lines : (o : Options) (answers : Answers) (m : PlacedModule) → length (events false 0 (layout o answers m)) ≤ length (text_of (layout o answers m))
layout_lines o answers m = started_lines (layout o answers m) (layout_start o answers m) (layout_fed o answers m)
