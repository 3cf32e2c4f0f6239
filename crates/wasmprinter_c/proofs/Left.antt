-- The errors of printing over a buffer, and the contents of the buffer after them.
use Rattle.std.proofs.Common.{◌≡◌, ℕ, ◌+◌, ◌<◌, ◌≤◌, List, [], ◌∷◌, ◌++◌, length, refl, sym, ap, ◌∙◌, subst, append_assoc, length-append, arith, inl, inr}
use Rattle.std.specs.Prelude.{false, Result, Ok, Err, IfErr, OnOk}
use Rattle.std.specs.declared.io.Error.{Error as IoError}
use Rattle.wasmprinter_bytes.specs.declared.library_error.Error.{Error}
use Rattle.wasmprinter_bytes.specs.declared.library_error.Error.TheVariants.{Malformed, Component, TooManyLocals, TooManyFunctions, EmptyTableInit, FoldLegacy, FoldHint, DylinkSubsection, Printer, Memory}
use Rattle.wasmprinter_spec.specs.Call.{Call, Text, Newline, Line, Start, Claim, atoms, call_text, text_of}
use Rattle.wasmprinter_spec.specs.Meaning.{Run}
use Rattle.wasmprinter_spec.specs.Options.{Options, with_color}
use Rattle.wasmprinter_spec.specs.Layout.{layout, refusal}
use Rattle.wasmprinter_spec.specs.Binary.{Spells}
use Rattle.wasmprinter_spec.specs.Placed.{PlacedModule}
use Rattle.wasmprinter_spec.proofs.Each.{all_both}
use Rattle.wasmprinter_spec.proofs.Texts.{text_of-append, alike_texts}
use Rattle.wasmprinter_print.proofs.Prefixes.{broken_parts}
use Rattle.wasmprinter_print.specs.MadeCalls.{Broken, Interrupted}
use Rattle.wasmprinter_print.specs.MadeLaws.{atoms-append}
use Rattle.wasmprinter.specs.Printed.{Printed}
use Rattle.wasmprinter.specs.Outcome.{FirstIsUnknown, HasListedCause, IsPrintRefusal, Leaves, LeavesBeginning, WhilePrinting, MadeUpTo}
use Rattle.wasmprinter.proofs.Named.{same_module}
use Rattle.wasmprinter_c.specs.Copied.{copied_meaning}
use Rattle.wasmprinter_c.specs.Events.{events}
use Rattle.wasmprinter_c.specs.Refused.{IsTooLong, HasBufferCause, IsBufferRefusal, IsWritten, LeavesBuffer}
use Rattle.wasmprinter_c.specs.declared.buffer_and_event_printer.Copier.{Copier}
use Rattle.wasmprinter_c.specs.Omitted.{IsListOf, answers_for, IsAnsweredFor, kept_customs}
use Rattle.wasmprinter_c.specs.Without.{IsPrefixWithout, PutsPrefixWithout, PutsTextBeforeWithout}
use Rattle.wasmprinter_c.proofs.Answered.{alike_answered, IsLayoutFor, answered_layout}
use Rattle.wasmprinter_c.proofs.FirstKept.{first_kept}
use Rattle.wasmprinter_c.proofs.Runs.{copying, HasCopied, IsFresh, run_copied, run_answered}

-- ---- A printer to which nothing was printed before

module _ (old : Copier) (fresh : IsFresh old) where
  -- If a call failed, the text of the layout is longer than the limit.
  pub broken_long : (new : Copier) (x : IoError) (l : List Call) → Broken copied_meaning old new x l → old.limit < length (text_of l)
  broken_long new x l b =
      let has : HasCopied old (text_of b.calls) (events old.all_events 0 b.calls) b.before = run_copied old b.before b.calls fresh b.run in
      let n₁ = ap length (broken_parts copied_meaning old new x l b) in
      let n₂ = length-append (text_of b.calls) (call_text b.call ++ text_of b.rest) in
      let n₃ = length-append (call_text b.call) (text_of b.rest) in
      let counted = has.counted in
      let may = b.failed.may in
      let limit = has.same_limit in
      omega (arith, n₁, n₂, n₃, counted, may, limit)

  -- A call that fails is no claim, since a claim passes no text.
  answered_call : (names : List (List ℕ)) (s : Copier) (c : Call) → s.written ≤ s.limit → s.limit < s.written + length (call_text c) → IsAnsweredFor names c
  answered_call names s (Text bytes) h k = tt
  answered_call names s Newline h k = tt
  answered_call names s (Line place) h k = tt
  answered_call names s (Start style) h k = tt
  answered_call names s (Claim name place bytes answer) h k = absurd (omega (arith, h, k))

  -- The printer's list has these names.
  module _ (names : List (List ℕ)) (listed : IsListOf names old.omitted.now) (o : Options) (bytes : List ℕ) (new : Copier) where
    -- This text was written over the buffer, and is not longer than the limit.
    abbrev Writes : List ℕ → Type 0
    Writes = IsWritten old.limit old.out.now new.out.now

    short_run : (s : Copier) (calls : List Call) → Run copied_meaning old calls s → length (text_of calls) ≤ old.limit
    short_run s calls r =
        let has : HasCopied old (text_of calls) (events old.all_events 0 calls) s = run_copied old s calls fresh r in
        let counted = has.counted in
        let short = has.short in
        let same = has.same_limit in
        omega (arith, counted, short, same)

    runs_written : (calls : List Call) → Run copied_meaning old calls new → Writes (text_of calls)
    runs_written calls r = ((run_copied old new calls fresh r).copied, short_run new calls r)

    broken_written : (x : IoError) (l : List Call) (b : Broken copied_meaning old new x l) → Writes (text_of b.calls)
    broken_written x l b =
        (ap (λ (c : Copier). c.out.now) b.failed.left ∙ (run_copied old b.before b.calls fresh b.run).copied, short_run b.before b.calls b.run)

    -- The calls before a failed call and that call are a prefix of the layout, whose text is longer than the limit.
    long_prefix : (x : IoError) (l : List Call) → Broken copied_meaning old new x l → (text : List ℕ) × IsPrefixWithout names l text × (old.limit < length text)
    long_prefix x l b =
        let has : HasCopied old (text_of b.calls) (events old.all_events 0 b.calls) b.before = run_copied old b.before b.calls fresh b.run in
        let may = b.failed.may in
        let n₁ = ap length (text_of-append b.calls (b.call ∷ [])) in
        let n₂ = length-append (text_of b.calls) (call_text b.call ++ []) in
        let n₃ = length-append (call_text b.call) [] in
        let counted = has.counted in
        let limit = has.same_limit in (
          text_of (b.calls ++ b.call ∷ []),
          record {
            calls = b.calls ++ b.call ∷ [];
            rest = b.rest;
            alike = b.alike;
            answered = all_both (IsAnsweredFor names) b.calls (b.call ∷ []) (run_answered names old b.before b.calls listed b.run)
                (answered_call names b.before b.call has.short may, tt);
            is = refl;
          },
          omega (arith, n₁, n₂, n₃, counted, may, limit),
        )

    too_long : (x : IoError) → Leaves (copying old new) false o bytes (Printer x) → IsTooLong names o bytes old.limit
    too_long x h = record {
      decoded = h.decoded;
      foldable = h.foldable;
      answers = h.answers;
      left = long_prefix x (layout (with_color o false) h.answers h.decoded.placed) h.left;
    }

    -- If printing ended at a refused section, the layout is that in which the sections with the names are claimed.
    refused_layout : (id : ℕ) (h : WhilePrinting o bytes (MadeUpTo (copying old new) id (with_color o false))) → IsLayoutFor names (with_color o false) h.answers h.decoded.placed
    refused_layout id h =
        let laid : List Call = layout (with_color o false) h.answers h.decoded.placed in
        answered_layout names (with_color o false) h.answers h.decoded.placed
        (alike_answered names h.left.made.calls laid h.left.made.alike (run_answered names old new h.left.made.calls listed h.left.made.run))

    -- It is the first of the other sections that is refused for an unknown subsection.
    first_refused : (id : ℕ) → WhilePrinting o bytes (MadeUpTo (copying old new) id (with_color o false)) → (placed : PlacedModule) → Spells bytes placed →
        FirstIsUnknown id (kept_customs names placed.customs)
    first_refused id h placed s =
        subst (λ (m : PlacedModule). FirstIsUnknown id (kept_customs names m.customs)) (same_module h.decoded placed s)
        (first_kept names (with_color o false) bytes h.decoded.placed id h.decoded.spelled (sym (refused_layout id h).refusal ∙ h.left.ends))

    buffer_cause : (e : Error) → Leaves (copying old new) false o bytes e → HasListedCause (copying old new) o bytes e → HasBufferCause names o bytes old.limit e
    buffer_cause (Malformed place) l h = h
    buffer_cause Component l h = h
    buffer_cause (TooManyLocals place) l h = h
    buffer_cause (TooManyFunctions count) l h = h
    buffer_cause (EmptyTableInit place) l h = h
    buffer_cause (FoldLegacy place) l h = h
    buffer_cause (FoldHint place) l h = h
    buffer_cause (DylinkSubsection id) l h = first_refused id l
    buffer_cause (Printer x) l h = λ placed s. too_long x l
    buffer_cause Memory l h = λ placed s. inl (h placed s)
    buffer_cause _ l h = absurd l

    kept : new ≡ old → new.out.now ≡ old.out.now
    kept e = ap (λ (c : Copier). c.out.now) e

    -- If a call failed, a prefix of the text was written.
    failed_prefix : (x : IoError) (l : List Call) → Broken copied_meaning old new x l → (text : List ℕ) × IsPrefixWithout names l text × Writes text
    failed_prefix x l b = (
      text_of b.calls,
      record {
        calls = b.calls;
        rest = atoms (b.call ∷ []) ++ b.rest;
        alike = sym (append_assoc (atoms b.calls) (atoms (b.call ∷ [])) b.rest)
            ∙ ap (λ (cs : List Call). cs ++ b.rest) (sym (atoms-append b.calls (b.call ∷ []))) ∙ b.alike;
        answered = run_answered names old b.before b.calls listed b.run;
        is = refl;
      },
      broken_written x l b,
    )

    -- If an allocation failed between two calls, a prefix of the text was written.
    stopped_prefix : (l : List Call) → Interrupted copied_meaning old new l → (text : List ℕ) × IsPrefixWithout names l text × Writes text
    stopped_prefix l b = (
      text_of b.calls,
      record {
        calls = b.calls;
        rest = b.rest;
        alike = b.alike;
        answered = run_answered names old new b.calls listed b.run;
        is = refl;
      },
      runs_written b.calls b.run,
    )

    memory_left : LeavesBeginning (copying old new) false o bytes → LeavesBuffer names o bytes old.limit Memory old.out.now new.out.now
    memory_left (inl e) = inl (kept e)
    memory_left (inr h) =
        inr (
          h.0,
          record {
            decoded = h.1.decoded;
            foldable = h.1.foldable;
            answers = h.1.answers;
            left = stopped_prefix (layout (with_color o false) h.1.answers h.1.decoded.placed) h.1.left;
          },
        )

    long_left : (x : IoError) → Leaves (copying old new) false o bytes (Printer x) → PutsPrefixWithout names o bytes Writes
    long_left x h = record {
      decoded = h.decoded;
      foldable = h.foldable;
      answers = h.answers;
      left = failed_prefix x (layout (with_color o false) h.answers h.decoded.placed) h.left;
    }

    -- If a `dylink.0` section was refused, the text before it was written.
    refused_left : (id : ℕ) → WhilePrinting o bytes (MadeUpTo (copying old new) id (with_color o false)) → PutsTextBeforeWithout names id o bytes Writes
    refused_left id h =
        let by : Options = with_color o false in
        let placed : PlacedModule = h.decoded.placed in
        let own : IsLayoutFor names by h.answers placed = refused_layout id h in
        let laid : List Call = layout by (answers_for names placed) placed in
        record {
          decoded = h.decoded;
          foldable = h.foldable;
          answers = h.answers;
          left = (
            text_of laid,
            record { ends = sym own.refusal ∙ h.left.ends; is = refl },
            subst Writes (alike_texts h.left.made.calls laid (h.left.made.alike ∙ ap atoms own.layout)) (runs_written h.left.made.calls h.left.made.run),
          );
        }

    leaves_buffer : (e : Error) → Leaves (copying old new) false o bytes e → LeavesBuffer names o bytes old.limit e old.out.now new.out.now
    leaves_buffer (Malformed place) h = kept h
    leaves_buffer Component h = kept h
    leaves_buffer (TooManyLocals place) h = kept h
    leaves_buffer (TooManyFunctions count) h = kept h
    leaves_buffer (EmptyTableInit place) h = kept h
    leaves_buffer (FoldLegacy place) h = kept h
    leaves_buffer (FoldHint place) h = kept h
    leaves_buffer (DylinkSubsection id) h = refused_left id h
    leaves_buffer (Printer x) h = long_left x h
    leaves_buffer Memory h = memory_left h
    leaves_buffer _ h = absurd h

    pub if_err_refusal : {T : Type 0} (r : Result T Error) → IfErr r (Leaves (copying old new) false o bytes) →
        IfErr r (IsPrintRefusal (copying old new) o bytes) → IfErr r (IsBufferRefusal names o bytes old.limit)
    if_err_refusal (Ok x) l h = tt
    if_err_refusal (Err e) l h = record { true_of = h.true_of; caused = buffer_cause e l h.caused }

    pub if_err_left : {T : Type 0} (r : Result T Error) → IfErr r (Leaves (copying old new) false o bytes) →
        IfErr r (λ e. LeavesBuffer names o bytes old.limit e old.out.now new.out.now)
    if_err_left (Ok x) l = tt
    if_err_left (Err e) l = leaves_buffer e l

  -- -- The printer keeps its buffer and its table

  pub record AreSame (new : Copier) : Type 0 where
    pub buffer : new.out.ghost_name ≡ old.out.ghost_name
    pub table : new.table.ghost_name ≡ old.table.ghost_name

  run_same : (new : Copier) (calls : List Call) → Run copied_meaning old calls new → AreSame new
  run_same new calls r =
      let has : HasCopied old (text_of calls) (events old.all_events 0 calls) new = run_copied old new calls fresh r in
      record { buffer = has.same_buffer; table = has.same_table }

  unchanged_same : (new : Copier) → new ≡ old → AreSame new
  unchanged_same new e = record { buffer = ap (λ (c : Copier). c.out.ghost_name) e; table = ap (λ (c : Copier). c.table.ghost_name) e }

  module _ (o : Options) (bytes : List ℕ) (new : Copier) where
    memory_same : LeavesBeginning (copying old new) false o bytes → AreSame new
    memory_same (inl e) = unchanged_same new e
    memory_same (inr h) = run_same new h.1.left.calls h.1.left.run

    refused_same : (e : Error) → Leaves (copying old new) false o bytes e → AreSame new
    refused_same (Malformed place) h = unchanged_same new h
    refused_same Component h = unchanged_same new h
    refused_same (TooManyLocals place) h = unchanged_same new h
    refused_same (TooManyFunctions count) h = unchanged_same new h
    refused_same (EmptyTableInit place) h = unchanged_same new h
    refused_same (FoldLegacy place) h = unchanged_same new h
    refused_same (FoldHint place) h = unchanged_same new h
    refused_same (DylinkSubsection id) h = run_same new h.left.made.calls h.left.made.run
    refused_same (Printer x) h = subst AreSame (sym h.left.failed.left) (run_same h.left.before h.left.calls h.left.run)
    refused_same Memory h = memory_same h
    refused_same _ h = absurd h

    pub either_same : {T : Type 0} (r : Result T Error) → OnOk r (Printed (copying old new) false o bytes) →
        IfErr r (Leaves (copying old new) false o bytes) → AreSame new
    either_same (Ok x) v l = run_same new v.calls v.run
    either_same (Err e) v l = refused_same e l
