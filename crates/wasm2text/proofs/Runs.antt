-- What a run did, by its request.
use Rattle.std.specs.Prelude.{◌≡◌, ℕ, List, Option, Some, None, unwrap_or}
use Rattle.std.proofs.Common.{sym, ap, ◌∙◌, subst, inl}
use Rattle.wasm2text.specs.Arguments.{Argument, IsCommandLine, Request, request_of, with_input}
use Rattle.wasm2text.specs.Messages.{Failure}
use Rattle.wasm2text.specs.Outcome.{System, Run, Reads, series, choice_of, own_text, WritesText, PrintsEach, PrintsToFile, CarriesOut, Serves, Performs, HasOutcome}

clash : {A : Type 0} {x : A} (o : Option A) → o ≡ Some x → o ≡ None → ⊥
clash {A} {x} o e h = let both : ◌≡◌ {A = Option A} (Some x) None = sym e ∙ h in cc

same : {A : Type 0} {x y : A} (o : Option A) → o ≡ Some x → o ≡ Some y → x ≡ y
same {A} {x} {y} o e h = ap (λ z. unwrap_or z x) (sym e ∙ h)

module _ {I C O F V : Type 0} (s : System I C O F V) (request : Request) (run : Run I C O V) (failures : List Failure) where
  -- The help or the version was written.
  pub tells : (text : List ℕ) → own_text request ≡ Some text → run.inputs_new ≡ run.inputs_old → run.outputs_new ≡ run.outputs_old →
      WritesText s.out run.old text failures run.new → CarriesOut s request run failures
  tells text e unread uncreated writes = record {
    text = λ other o. (unread, uncreated, subst (λ x. WritesText s.out run.old x failures run.new) (same (own_text request) e o) writes);
    prints = λ none o. absurd (clash (own_text request) e none);
    prints_to_file = λ name none o. absurd (clash (own_text request) e none);
  }

  -- The files were printed to standard output.
  pub prints_out : own_text request ≡ None → request.output ≡ None → run.outputs_new ≡ run.outputs_old →
      PrintsEach (series (Reads s.reads s.reads_input) (choice_of request run.shows_colors) s.out) run.inputs_old run.old request.files failures
      run.inputs_new run.new →
      CarriesOut s request run failures
  prints_out n e uncreated prints = record {
    text = λ text asks. absurd (clash (own_text request) asks n);
    prints = λ none o. (uncreated, prints);
    prints_to_file = λ name none o. absurd (clash request.output o e);
  }

  -- The files were printed to a file.
  pub prints_to : (path : List ℕ) → own_text request ≡ None → request.output ≡ Some path → run.new ≡ run.old →
      PrintsToFile (Reads s.reads s.reads_input) (choice_of request run.shows_colors) s.creates s.closes s.file path run.inputs_old run.outputs_old
      request.files failures run.inputs_new run.outputs_new →
      CarriesOut s request run failures
  prints_to path n e silent prints = record {
    text = λ text asks. absurd (clash (own_text request) asks n);
    prints = λ none o. absurd (clash request.output e o);
    prints_to_file = λ name none o. (
      silent,
      subst
          (λ x. PrintsToFile (Reads s.reads s.reads_input) (choice_of request run.shows_colors) s.creates s.closes s.file x run.inputs_old run.outputs_old
          request.files failures run.inputs_new run.outputs_new)
          (same request.output e o) prints,
    );
  }

-- The run did what an equal request asks for.
pub serves_same : {I C O F V : Type 0} (s : System I C O F V) (run : Run I C O V) (request other : Request) → request ≡ other → Serves s request run →
    Serves s other run
serves_same s run request other e done = subst (λ r. Serves s r run) e done

-- The words are a command line, and the run did what it asks for.
pub performs : {I C O F V : Type 0} (s : System I C O F V) (words : List (List ℕ)) (run : Run I C O V) (arguments : List Argument) (request : Request) →
    IsCommandLine arguments words → request ≡ request_of arguments → Performs s (with_input request) run → HasOutcome s words run
performs s words run arguments request read e done = inl (arguments, read, subst (λ r. Performs s (with_input r) run) e done)
