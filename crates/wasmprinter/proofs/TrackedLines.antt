-- The text and the lines that a tracker keeps.
use Rattle.std.specs.Prelude.{◌≡◌, ℕ, List, [], ◌++◌, Bool, false, Result, Ok, Err, MatchResult, IsErrAnd, IfOk, IfErr, OnOk}
use Rattle.std.proofs.Common.{sym, ap, ◌∙◌, subst, append-nil, inl, inr}
use Rattle.wasmprinter_bytes.specs.declared.library_error.Error.{Error}
use Rattle.wasmprinter_bytes.specs.declared.library_error.Error.TheVariants.{Malformed, Component, TooManyLocals, TooManyFunctions, EmptyTableInit, FoldLegacy, FoldHint, DylinkSubsection, Printer, Memory}
use Rattle.wasmprinter_spec.specs.Placed.{PlacedModule}
use Rattle.wasmprinter_spec.specs.Call.{Call, text_of, atoms}
use Rattle.wasmprinter_spec.specs.Meaning.{Run}
use Rattle.wasmprinter_spec.specs.Options.{Options, with_color}
use Rattle.wasmprinter_spec.specs.Layout.{layout}
use Rattle.wasmprinter_spec.specs.Lines.{TextLine, lines_of, joined_lines, line_places, hint_places, HasFunctionLines}
use Rattle.wasmprinter_spec.proofs.Texts.{alike_texts, alike_lines}
use Rattle.wasmprinter_writers.specs.declared.line_iterator.LineStart.{LineStart}
use Rattle.wasmprinter_writers.specs.Cuts.{lines_at_starts}
use Rattle.wasmprinter_writers.specs.Tracked.{Tracked, without_lines}
use Rattle.wasmprinter_writers.specs.Tracking.{tracked_meaning, Tracks}
use Rattle.wasmprinter_writers.proofs.LineRuns.{claims_never, run_tracks, run_text, broken_text}
use Rattle.wasmprinter_laws.proofs.Lines.Starts.{lines_join}
use Rattle.wasmprinter_laws.proofs.Lines.FunctionLines.{function_lines}
use Rattle.wasmprinter_print.specs.Change.{Change, change}
use Rattle.wasmprinter.specs.Printed.{Printed, no_claims}
use Rattle.wasmprinter.specs.Outcome.{Leaves, LeavesBeginning, IsTextRefusal, without_printer}
use Rattle.wasmprinter.specs.Lined.{HasLinesBy, LeavesStorage}
use Rattle.wasmprinter.proofs.Prefixes.{failed_puts, stopped_puts, refused_puts}
use Rattle.wasmprinter.proofs.Texts.{IsPlainly, plainly_printed, module_text}

-- The change of a tracker.
abbrev pub tracking : Tracked → Tracked → Change Tracked
tracking old new = change tracked_meaning old new

-- If a module was printed and no line was lost, the tracker has the text and the lines of the module.
pub printed_lines : (o : Options) (bytes base : List ℕ) (t : Tracked) → t.lost ≡ false → Printed (tracking (without_lines base) t) false o bytes →
    HasLinesBy o bytes base t.text t.lines
printed_lines o bytes base t kept v =
    let by : Options = with_color o false in
    let placed : PlacedModule = v.decoded.placed in
    let own : IsPlainly o v.calls placed = plainly_printed v claims_never in
    let laid : List Call = layout by no_claims placed in
    let tracks : Tracks base v.calls t = run_tracks base v.calls t v.run in
    let same : text_of v.calls ≡ text_of laid = alike_texts v.calls laid own.alike in
    let are : t.lines ≡ lines_of laid = tracks.lines kept ∙ alike_lines v.calls laid own.alike in
    record {
      text = text_of v.calls;
      printed = module_text o v.decoded v.foldable own.accepted (text_of v.calls) same;
      appended = tracks.text;
      are = are;
      joined = ap joined_lines are ∙ lines_join by no_claims placed ∙ sym same;
      functions = λ whole flat i f e.
          subst (λ (ls : List TextLine). HasFunctionLines (hint_places placed) (line_places ls) f) (sym are)
          (function_lines bytes placed by no_claims v.decoded.spelled whole flat own.accepted i f e);
    }

-- If a module was printed, `Memory` for the entry of a line is a refusal of its bytes.
pub memory_refusal : {P : Type 0} {printer : Change P} {colors : Bool} {o : Options} {bytes : List ℕ} → Printed printer colors o bytes → IsTextRefusal o bytes Memory
memory_refusal v = record { true_of = inr v.decoded; caused = λ placed s. tt }

-- ---- The storage after an error

module _ (o : Options) (bytes : List ℕ) (old new : Tracked) where
  -- This text was appended.
  abbrev IsAppended : List ℕ → Type 0
  IsAppended text = new.text ≡ old.text ++ text

  appends_runs : (calls : List Call) → Run tracked_meaning old calls new → IsAppended (text_of calls)
  appends_runs calls r = run_text old calls new r

  kept : new ≡ old → new.text ≡ old.text
  kept e = ap (λ (t : Tracked). t.text) e

  memory_leaves : LeavesBeginning (tracking old new) false o bytes → LeavesStorage o bytes Memory old.text new.text
  memory_leaves (inl e) = inl (kept e)
  memory_leaves (inr h) = inr (stopped_puts (tracking old new) claims_never o bytes IsAppended appends_runs h.1)

  -- After each error the storage is as promised. An error of the tracker is a failed allocation.
  pub refusal_leaves : (e : Error) → Leaves (tracking old new) false o bytes e → LeavesStorage o bytes (without_printer e) old.text new.text
  refusal_leaves (Malformed place) h = kept h
  refusal_leaves Component h = kept h
  refusal_leaves (TooManyLocals place) h = kept h
  refusal_leaves (TooManyFunctions count) h = kept h
  refusal_leaves (EmptyTableInit place) h = kept h
  refusal_leaves (FoldLegacy place) h = kept h
  refusal_leaves (FoldHint place) h = kept h
  refusal_leaves (DylinkSubsection id) h = refused_puts (tracking old new) claims_never o bytes IsAppended id appends_runs h
  refusal_leaves (Printer x) h = inr (failed_puts (tracking old new) claims_never o bytes IsAppended x (broken_text old new x) h)
  refusal_leaves Memory h = memory_leaves h
  refusal_leaves _ h = absurd h

  -- If the whole module was printed but a line has no entry, the storage is as promised for a failed allocation.
  pub printed_leaves : Printed (tracking old new) false o bytes → LeavesStorage o bytes Memory old.text new.text
  printed_leaves v =
      inr (stopped_puts (tracking old new) claims_never o bytes IsAppended appends_runs
      (record {
        decoded = v.decoded;
        foldable = v.foldable;
        answers = v.answers;
        left = record { calls = v.calls; rest = []; run = v.run; alike = append-nil (atoms v.calls) ∙ v.alike };
      }))

-- ---- The result of `finish` is returned, with its error as `Memory`

pub told_as : {T A : Type 0} (R : A → Error → Type 0) → ((e : A) (y : Error) → R e y → y ≡ Memory) →
    (x : Result T A) (r : Result T Error) → MatchResult x (λ v. r ≡ Ok v) (λ e. IsErrAnd r (R e)) → (Q : Error → Type 0) → Q Memory → IfErr r Q
told_as R is (Ok v) (Ok w) h Q q = tt
told_as R is (Ok v) (Err y) h Q q = absurd cc
told_as R is (Err e) (Ok w) h Q q = tt
told_as R is (Err e) (Err y) h Q q = subst Q (sym (is e y h)) q

pub handed_on_as : {T A : Type 0} (R : A → Error → Type 0) (Q : T → Type 0) (x : Result T A) (r : Result T Error) →
    MatchResult x (λ v. r ≡ Ok v) (λ e. IsErrAnd r (R e)) → IfOk x Q → IfOk r Q
handed_on_as R Q (Ok v) (Ok w) h q = subst Q (sym cc) q
handed_on_as R Q (Ok v) (Err y) h q = tt
handed_on_as R Q (Err e) (Ok w) h q = absurd h
handed_on_as R Q (Err e) (Err y) h q = tt

module _ (o : Options) (bytes base text : List ℕ) (old t : Tracked) (is_old : old ≡ without_lines base) (is_text : text ≡ t.text) where
  -- The promise about the tracker's texts is a promise about the storage before and after the call.
  pub leaves_as : (e : Error) → LeavesStorage o bytes e old.text t.text → LeavesStorage o bytes e base text
  leaves_as e h =
      subst (λ (x : List ℕ). LeavesStorage o bytes e base x) (sym is_text)
      (subst (λ (s : Tracked). LeavesStorage o bytes e s.text t.text) is_old h)

  -- If `finish` succeeds, the lines that begin at its places are those of the module.
  pub finished_lines : {T A : Type 0} (starts_of : T → List LineStart) (x : Result T A) → Printed (tracking old t) false o bytes →
      OnOk x (t.lost ≡ false) → IfOk x (λ starts. lines_at_starts (starts_of starts) t.text ≡ t.lines) → IfOk x (λ starts. HasLinesBy o bytes base text (lines_at_starts (starts_of starts) text))
  finished_lines starts_of (Ok starts) v kept lines =
      let whole : HasLinesBy o bytes base t.text t.lines = printed_lines o bytes base t kept (subst (λ (s : Tracked). Printed (tracking s t) false o bytes) is_old v) in
      subst (λ (x : List ℕ). HasLinesBy o bytes base x (lines_at_starts (starts_of starts) x)) (sym is_text)
      (subst (λ (ls : List TextLine). HasLinesBy o bytes base t.text ls) (sym lines) whole)
  finished_lines starts_of (Err e) v kept lines = tt
