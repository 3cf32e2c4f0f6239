-- The outcome of a call for each of its results.
use Rattle.std.proofs.Common.{◌≡◌, ◌⊎◌, ℕ, List, [], refl, sym, subst, arith, inl, inr}
use Rattle.std.specs.Str.{IsUtf8}
use Rattle.wasmprinter_bytes.specs.declared.library_error.Error.{Error}
use Rattle.wasmprinter_bytes.specs.declared.library_error.Error.TheVariants.{Malformed, Component, TooManyLocals, TooManyFunctions, EmptyTableInit, FoldLegacy, FoldHint, DylinkSubsection, Unreadable, Printer, Memory}
use Rattle.wasmprinter_spec.specs.Binary.{IsComponent}
use Rattle.wasmprinter_spec.specs.Options.{Options}
use Rattle.wasmprinter_print.specs.Change.{change}
use Rattle.wasmprinter.specs.AnsiText.{ansi_text_meaning}
use Rattle.wasmprinter.proofs.Outcomes.{refusal_cause}
use Rattle.wasmprinter_c.specs.Omitted.{IsListOf}
use Rattle.wasmprinter_c.specs.Printing.{Request, request, Buffers, HasEventsOver}
use Rattle.wasmprinter_c.specs.Refused.{number_of, detail_in, IsCopied, HasBufferCause, IsBufferRefusal, IsTrueOrUncopied, LeavesBuffer}
use Rattle.wasmprinter_c.specs.Outcomes.{IsOutcome}
use Rattle.wasmprinter_c.specs.declared.Outcome.{Outcome}
use Rattle.wasmprinter_c.proofs.NameLists.{whole_not_cut}

not_zero : (e : Error) → number_of e ≡ 0 → ⊥
not_zero (Malformed place) h = omega (arith, h)
not_zero Component h = omega (arith, h)
not_zero (TooManyLocals place) h = omega (arith, h)
not_zero (TooManyFunctions count) h = omega (arith, h)
not_zero (EmptyTableInit place) h = omega (arith, h)
not_zero (FoldLegacy place) h = omega (arith, h)
not_zero (FoldHint place) h = omega (arith, h)
not_zero (DylinkSubsection id) h = omega (arith, h)
not_zero Unreadable h = omega (arith, h)
not_zero (Printer x) h = omega (arith, h)
not_zero Memory h = omega (arith, h)

not_twelve : (e : Error) → number_of e ≡ 12 → ⊥
not_twelve (Malformed place) h = omega (arith, h)
not_twelve Component h = omega (arith, h)
not_twelve (TooManyLocals place) h = omega (arith, h)
not_twelve (TooManyFunctions count) h = omega (arith, h)
not_twelve (EmptyTableInit place) h = omega (arith, h)
not_twelve (FoldLegacy place) h = omega (arith, h)
not_twelve (FoldHint place) h = omega (arith, h)
not_twelve (DylinkSubsection id) h = omega (arith, h)
not_twelve Unreadable h = omega (arith, h)
not_twelve (Printer x) h = omega (arith, h)
not_twelve Memory h = omega (arith, h)

not_thirteen : (e : Error) → number_of e ≡ 13 → ⊥
not_thirteen (Malformed place) h = omega (arith, h)
not_thirteen Component h = omega (arith, h)
not_thirteen (TooManyLocals place) h = omega (arith, h)
not_thirteen (TooManyFunctions count) h = omega (arith, h)
not_thirteen (EmptyTableInit place) h = omega (arith, h)
not_thirteen (FoldLegacy place) h = omega (arith, h)
not_thirteen (FoldHint place) h = omega (arith, h)
not_thirteen (DylinkSubsection id) h = omega (arith, h)
not_thirteen Unreadable h = omega (arith, h)
not_thirteen (Printer x) h = omega (arith, h)
not_thirteen Memory h = omega (arith, h)

not_fourteen : (e : Error) → number_of e ≡ 14 → ⊥
not_fourteen (Malformed place) h = omega (arith, h)
not_fourteen Component h = omega (arith, h)
not_fourteen (TooManyLocals place) h = omega (arith, h)
not_fourteen (TooManyFunctions count) h = omega (arith, h)
not_fourteen (EmptyTableInit place) h = omega (arith, h)
not_fourteen (FoldLegacy place) h = omega (arith, h)
not_fourteen (FoldHint place) h = omega (arith, h)
not_fourteen (DylinkSubsection id) h = omega (arith, h)
not_fourteen Unreadable h = omega (arith, h)
not_fourteen (Printer x) h = omega (arith, h)
not_fourteen Memory h = omega (arith, h)

-- A number is neither of two others.
neither : (n k l : ℕ) → (n ≡ k → ⊥) → (n ≡ l → ⊥) → (n ≡ k) ⊎ (n ≡ l) → ⊥
neither n k l f g (inl e) = f e
neither n k l f g (inr e) = g e

-- No error has the status of a printed module, of a wrong indent or of a list that is cut off.
no_such_error : (e : Error) → (number_of e ≡ 0) ⊎ (number_of e ≡ 12) → ⊥
no_such_error e h = neither (number_of e) 0 12 (not_zero e) (not_twelve e) h

no_wrong_request : (e : Error) → (number_of e ≡ 12) ⊎ (number_of e ≡ 14) → ⊥
no_wrong_request e h = neither (number_of e) 12 14 (not_twelve e) (not_fourteen e) h

-- An error with the number 2 is true only of a component.
two_true : (o : Options) (bytes : List ℕ) (e : Error) → IsTrueOrUncopied o bytes e → number_of e ≡ 2 → IsComponent bytes
two_true o bytes Component (inl h) n = h
two_true o bytes Component (inr (e, copied)) n = absurd cc
two_true o bytes (Malformed place) h n = absurd (omega (arith, n))
two_true o bytes (TooManyLocals place) h n = absurd (omega (arith, n))
two_true o bytes (TooManyFunctions count) h n = absurd (omega (arith, n))
two_true o bytes (EmptyTableInit place) h n = absurd (omega (arith, n))
two_true o bytes (FoldLegacy place) h n = absurd (omega (arith, n))
two_true o bytes (FoldHint place) h n = absurd (omega (arith, n))
two_true o bytes (DylinkSubsection id) h n = absurd (omega (arith, n))
two_true o bytes Unreadable h n = absurd (omega (arith, n))
two_true o bytes (Printer x) h n = absurd (omega (arith, n))
two_true o bytes Memory h n = absurd (omega (arith, n))

-- The outcome for an error.
abbrev outcome_of : Error → Outcome
outcome_of e = record { status = number_of e; length = 0; count = 0; detail = detail_in e }

module _ (r : Request) (bytes : List ℕ) (b : Buffers) where
  -- An error for a module with a valid indent and a list of names, or for a component, has its outcome.
  error_outcome : (names : List (List ℕ)) (e : Error) → IsTrueOrUncopied r.options bytes e → HasBufferCause names r.options bytes r.limit e →
      LeavesBuffer names r.options bytes r.limit e b.old b.new → (IsComponent bytes → number_of e ≡ 2) → (¬ IsComponent bytes → IsUtf8 r.options.indent) →
      (¬ IsComponent bytes → IsListOf names r.omitted) → IsOutcome r bytes b (outcome_of e)
  error_outcome names e is_so caused left two valid listed = record {
    printed = λ z. absurd (not_zero e z);
    refused = λ z t f. record {
      names = names;
      listed = listed;
      error = e;
      numbered = refl;
      detailed = refl;
      is_so = is_so;
      caused = caused;
      left = left;
      uncounted = refl;
      unlisted = refl;
    };
    component = (two_true r.options bytes e is_so, two);
    wrong_indent = (λ t. absurd (not_twelve e t), λ w. absurd (w.1 (valid w.0)));
    wrong_list = (λ f. absurd (not_fourteen e f), λ w. absurd (whole_not_cut names w.2.0 r.omitted (listed w.0) w.2.1));
    cut_at = λ f. absurd (not_fourteen e f);
    untouched = λ h. absurd (no_wrong_request e h);
    known = not_thirteen e;
    no_detail = λ h. absurd (no_such_error e h);
  }

  component_outcome : b.new ≡ b.old → IsComponent bytes → IsOutcome r bytes b (outcome_of Component)
  component_outcome same c =
      error_outcome [] Component (inl c) (refusal_cause (change ansi_text_meaning [] []) r.options bytes Component c) same (λ h. refl) (λ unmarked. absurd (unmarked c))
      (λ unmarked. absurd (unmarked c))

  memory_outcome : (names : List (List ℕ)) → b.new ≡ b.old → ¬ IsComponent bytes → IsUtf8 r.options.indent → IsListOf names r.omitted → IsCopied r.options.indent →
      IsOutcome r bytes b (outcome_of Memory)
  memory_outcome names same unmarked valid listed copied =
      error_outcome names Memory (inr (refl, copied)) (λ placed s. inr copied) (inl same) (λ c. absurd (unmarked c)) (λ n. valid) (λ n. listed)

  refused_outcome : (names : List (List ℕ)) (e : Error) → ¬ IsComponent bytes → IsUtf8 r.options.indent → IsListOf names r.omitted →
      IsBufferRefusal names r.options bytes r.limit e → LeavesBuffer names r.options bytes r.limit e b.old b.new → IsOutcome r bytes b (outcome_of e)
  refused_outcome names e unmarked valid listed refused left =
      error_outcome names e (inl refused.true_of) refused.caused left (λ c. absurd (unmarked c)) (λ n. valid) (λ n. listed)

-- ---- The result of the function that prints

module _ (bytes : List ℕ) (b : Buffers) (outcome : Outcome) (p : Request) where
  by_result : (e : Error) → outcome ≡ outcome_of e → IsOutcome p bytes b (outcome_of e) → IsOutcome p bytes b outcome
  by_result e is h = subst (IsOutcome p bytes b) (sym is) h

  pub marked_by : b.new ≡ b.old → IsComponent bytes → outcome ≡ outcome_of Component → IsOutcome p bytes b outcome
  marked_by same c is = by_result Component is (component_outcome p bytes b same c)

  pub uncopied_by : b.new ≡ b.old → ¬ IsComponent bytes → IsUtf8 p.options.indent → (names : List (List ℕ)) × IsListOf names p.omitted → IsCopied p.options.indent →
      outcome ≡ outcome_of Memory → IsOutcome p bytes b outcome
  uncopied_by same unmarked valid (names, listed) copied is = by_result Memory is (memory_outcome p bytes b names same unmarked valid listed copied)

  pub refused_by : (o : Options) (e : Error) → o ≡ p.options → ¬ IsComponent bytes → IsUtf8 p.options.indent → (whole : (names : List (List ℕ)) × IsListOf names p.omitted) →
      IsBufferRefusal whole.0 o bytes p.limit e → LeavesBuffer whole.0 o bytes p.limit e b.old b.new → outcome ≡ outcome_of e → IsOutcome p bytes b outcome
  refused_by o e same unmarked valid (names, listed) refused left is =
      by_result e is
      (refused_outcome p bytes b names e unmarked valid listed (subst (λ (x : Options). IsBufferRefusal names x bytes p.limit e) same refused)
      (subst (λ (x : Options). LeavesBuffer names x bytes p.limit e b.old b.new) same left))

-- ---- A module that was printed

module _ (bytes : List ℕ) (b : Buffers) (p : Request) where
  printed_outcome : (names : List (List ℕ)) (length count : ℕ) → ¬ IsComponent bytes → IsUtf8 p.options.indent → IsListOf names p.omitted →
      HasEventsOver p bytes b length count → IsOutcome p bytes b (record { status = 0; length = length; count = count; detail = 0 })
  printed_outcome names length count unmarked valid listed has = record {
    printed = λ z. has;
    refused = λ z t f. absurd (z refl);
    component = (λ two. absurd (omega (arith, two)), λ c. absurd (unmarked c));
    wrong_indent = (λ t. absurd (omega (arith, t)), λ w. absurd (w.1 valid));
    wrong_list = (λ f. absurd (omega (arith, f)), λ w. absurd (whole_not_cut names w.2.0 p.omitted listed w.2.1));
    cut_at = λ f. absurd (omega (arith, f));
    untouched = λ h. absurd (neither 0 12 14 (λ t. omega (arith, t)) (λ f. omega (arith, f)) h);
    known = λ k. omega (arith, k);
    no_detail = λ h. refl;
  }

  pub printed_by : (o : Options) (length count : ℕ) → o ≡ p.options → ¬ IsComponent bytes → IsUtf8 p.options.indent → (names : List (List ℕ)) × IsListOf names p.omitted →
      HasEventsOver (request o p.all_events p.limit p.omitted) bytes b length count →
      IsOutcome p bytes b (record { status = 0; length = length; count = count; detail = 0 })
  printed_by o length count same unmarked valid (names, listed) has =
      printed_outcome names length count unmarked valid listed
      (subst (λ (x : Options). HasEventsOver (request x p.all_events p.limit p.omitted) bytes b length count) same has)
