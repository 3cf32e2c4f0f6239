-- A tracker loses no line on a prefix of the calls of a module.
use Rattle.std.proofs.Common.{◌≡◌, ℕ, List, [], ◌∷◌, ◌++◌, map, refl, sym, ap, ◌∙◌, subst, true≢false}
use Rattle.std.specs.Prelude.{Option, Bool, true, false}
use Rattle.wasmprinter_spec.specs.Call.{Call, Text, Newline, Line, Start, Claim, calls_of_bytes, atoms}
use Rattle.wasmprinter_spec.specs.Layout.{layout}
use Rattle.wasmprinter_spec.specs.Meaning.{Run}
use Rattle.wasmprinter_laws.proofs.Lines.Fed.{Fed, layout_fed}
use Rattle.wasmprinter_writers.specs.Tracked.{Tracked, without_lines, with_line_if}
use Rattle.wasmprinter_writers.specs.Tracking.{tracked_after, tracked_meaning}
use Rattle.wasmprinter_writers.specs.NoLineLost.{NoLineLost}

-- ---- calls with text split into bytes

-- One call for each byte of a text, then more calls.
abbrev texts_and : List ℕ → List Call → List Call
texts_and s cs = map (λ b. Text (b ∷ [])) s ++ cs

-- If calls may follow anything, then so may a text followed by these calls.
texts_fed : (s : List ℕ) (cs : List Call) → ((after : Bool) → Fed after cs) → (fed : Bool) → Fed fed (texts_and s cs)
texts_fed [] cs h fed = h fed
texts_fed (b ∷ s) cs h fed = texts_fed s cs h false

-- If each line start in the calls comes directly after a line feed, then so does each line start in their atoms.
-- An empty text has no atom, so the atoms may follow a line feed that the calls do not follow.
atoms_fed : (fed now : Bool) → (fed ≡ true → now ≡ true) → (cs : List Call) → Fed fed cs → Fed now (atoms cs)
atoms_fed fed now le [] h = tt
atoms_fed fed now le (Text s ∷ cs) h = texts_fed s (atoms cs) (λ after. atoms_fed false after (λ e. absurd (true≢false (sym e))) cs h) now
atoms_fed fed now le (Newline ∷ cs) h = atoms_fed true true (λ e. e) cs h
atoms_fed fed now le (Line place ∷ cs) h = (le h.0, atoms_fed false false (λ e. e) cs h.1)
atoms_fed fed now le (Start style ∷ cs) h = atoms_fed false false (λ e. e) cs h
atoms_fed fed now le (Claim name place bytes answer ∷ cs) h = atoms_fed false false (λ e. e) cs h

-- If `Fed` holds for calls, then it holds for a prefix of them.
first_fed : (fed : Bool) (k l : List Call) → Fed fed (k ++ l) → Fed fed k
first_fed fed [] l h = tt
first_fed fed (Newline ∷ k) l h = first_fed true k l h
first_fed fed (Line place ∷ k) l h = (h.0, first_fed false k l h.1)
first_fed fed (c ∷ k) l h = first_fed false k l h

-- If `Fed` holds for a text followed by calls, then it holds for the calls. They directly follow a line feed only
-- if the text is empty.
after_texts : (fed : Bool) (s : List ℕ) (cs : List Call) → Fed fed (texts_and s cs) → (after : Bool) × Fed after cs
after_texts fed [] cs h = (fed, h)
after_texts fed (b ∷ s) cs h = after_texts false s cs h

-- ---- a run

-- If no other line has just started, then a line start loses no line.
kept_if : (b : Bool) (t : Tracked) (place : Option ℕ) → b ≡ false → t.lost ≡ false → (with_line_if b t place).lost ≡ false
kept_if true t place e kept = absurd (true≢false e)
kept_if false t place e kept = kept

-- No line was lost, and these calls lose none: wherever a line may start, no other line has just started.
record Keeps (t : Tracked) (cs : List Call) : Type 0 where
  fed : Bool
  ready : fed ≡ true → t.new_line ≡ false
  kept : t.lost ≡ false
  follow : Fed fed cs

after_call : (t : Tracked) (c : Call) (cs : List Call) → Keeps t (calls_of_bytes c ++ cs) → Keeps (tracked_after t c) cs
after_call t (Text s) cs h =
    let after = after_texts h.fed s cs h.follow in record { fed = after.0; ready = λ e. refl; kept = h.kept; follow = after.1 }
after_call t Newline cs h = record { fed = true; ready = λ e. refl; kept = h.kept; follow = h.follow }
after_call t (Line place) cs h = record {
  fed = false;
  ready = λ e. absurd (true≢false (sym e));
  kept = kept_if t.new_line t place (h.ready h.follow.0) h.kept;
  follow = h.follow.1;
}
after_call t (Start style) cs h = record { fed = false; ready = λ e. absurd (true≢false (sym e)); kept = h.kept; follow = h.follow }
after_call t (Claim name place bytes answer) cs h =
    record { fed = false; ready = λ e. absurd (true≢false (sym e)); kept = h.kept; follow = h.follow }

run_keeps_lines : (s : Tracked) (calls : List Call) (t : Tracked) → Keeps s (atoms calls) → Run tracked_meaning s calls t → t.lost ≡ false
run_keeps_lines s [] t h r = ap (λ (u : Tracked). u.lost) (sym r) ∙ h.kept
run_keeps_lines s (c ∷ calls) t h (between, called, rest) =
    run_keeps_lines between calls t (subst (λ (u : Tracked). Keeps u (atoms calls)) (sym called.step.0) (after_call s c (atoms calls) h)) rest

pub no_line_lost : NoLineLost
no_line_lost o answers m base calls rest t r e =
    let whole : Fed true (atoms (layout o answers m)) = atoms_fed true true (λ same. same) (layout o answers m) (layout_fed o answers m) in
    run_keeps_lines (without_lines base) calls t
    (record { fed = true; ready = λ same. refl; kept = refl; follow = first_fed true (atoms calls) rest (subst (Fed true) (sym e) whole) }) r
