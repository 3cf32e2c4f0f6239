-- The outcome of a run that ends with an error, and of one that may.
use Rattle.std.specs.Prelude.{◌≡◌, ℕ, ◌⊎◌, List, Option, Some, None, Result, Ok, Err, IfOk, IfErr}
use Rattle.std.proofs.Common.{sym, ◌∙◌, arith, inl, inr}
use Rattle.wasmprinter_bytes.specs.declared.library_error.Error.{Error}
use Rattle.printwasm.specs.Words.{named_file, choice_of}
use Rattle.printwasm.specs.Outcome.{System, FailsToWrite, ReportsError, HasOutcome}

-- If the words name a file, its module is not printed for an error, and the error was reported, the run has its
-- outcome with status 1.
pub refusal_told : {W V : Type 0} {s : System W V} (words : List (List ℕ)) (file : List ℕ) (error : Error) → named_file words ≡ Some file →
    FailsToWrite (choice_of words) (s.may_read file) s.out error → ReportsError s.err s.renders error → HasOutcome s words 1
refusal_told words file error named fails told = record {
  usage = (λ e. absurd (omega (arith, e)), λ none. absurd (let clash : ◌≡◌ {A = Option (List ℕ)} None (Some file) = sym none ∙ named in cc));
  bound = omega arith;
  silent = λ e. absurd (omega (arith, e));
  misused = λ e. absurd (omega (arith, e));
  printed = λ e. absurd (omega (arith, e));
  quiet = λ e. absurd (omega (arith, e));
  refused = λ e. (file, error, named, fails, told);
}

-- Two facts about a value and two about an error lead to one of two conclusions.
pub by_result : {X E : Type 0} (r : Result X E) (P Q : X → Type 0) (S T : E → Type 0) (A B : Type 0) → IfOk r P → IfOk r Q → IfErr r S → IfErr r T →
    ((x : X) → P x → Q x → A) → ((e : E) → S e → T e → B) → A ⊎ B
by_result (Ok x) P Q S T A B p q s t f g = inl (f x p q)
by_result (Err e) P Q S T A B p q s t f g = inr (g e s t)
