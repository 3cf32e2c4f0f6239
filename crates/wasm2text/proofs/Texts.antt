-- How printing a file ends, by how printing its module ended.
use Rattle.std.specs.Prelude.{◌≡◌, ◌↔◌, ℕ, ◌⊎◌, List, [], ◌∷◌, ◌++◌, true, false, Result, Ok, Err, OnOk, IfErr, IsErrOf, MatchResult}
use Rattle.std.specs.List.{concat}
use Rattle.std.specs.declared.io.Error.{Error as IoError}
use Rattle.std.proofs.Common.{refl, sym, ap, ◌∙◌, subst, append-nil, inl, inr}
use Rattle.wasmprinter_bytes.specs.declared.library_error.Error.{Error}
use Rattle.wasmprinter_bytes.specs.declared.library_error.Error.TheVariants.{Malformed, Component, TooManyLocals, TooManyFunctions, EmptyTableInit, FoldLegacy, FoldHint, DylinkSubsection, Unreadable, Printer, Memory}
use Rattle.wasmprinter_spec.specs.Binary.{IsComponent}
use Rattle.wasmprinter_spec.specs.Call.{Call, Text, Newline, Line, Start, Claim, IsText, atoms, text_of}
use Rattle.wasmprinter_spec.specs.Meaning.{Run}
use Rattle.wasmprinter_spec.specs.Options.{Options, with_color}
use Rattle.wasmprinter_spec.specs.Layout.{layout}
use Rattle.wasmprinter_spec.proofs.Texts.{alike_texts}
use Rattle.wasmprinter_print.specs.MadeCalls.{Broken, Interrupted}
use Rattle.wasmprinter_print.specs.TextOnly.{Writes, WritesTextOnly, text_only}
use Rattle.wasmprinter_print.proofs.TextRuns.{takes_none}
use Rattle.wasmprinter_writers.specs.Writing.{WritesEach}
use Rattle.wasmprinter_print.specs.Change.{change}
use Rattle.wasmprinter.specs.Printed.{Printed, IsTextOf, no_claims}
use Rattle.wasmprinter.specs.Outcome.{IsPrintRefusal, IsTextRefusal, Leaves, WhilePrinting, MadeUpTo, without_printer}
use Rattle.wasmprinter.specs.Prefix.{PutsPrefix}
use Rattle.wasmprinter.specs.TextOfFile.{AreRefused}
use Rattle.wasmprinter.proofs.Texts.{IsPlainly, plainly_printed, module_text}
use Rattle.wasmprinter.proofs.Prefixes.{failed_puts, stopped_puts}
use Rattle.wasmprinter.proofs.Outcomes.{text_refusal}
use Rattle.wasmprinter.proofs.TextOfFile.{component_error}
use Rattle.wasm2text.specs.declared.cause.Cause.TheVariants.{System as Unread, Module, NoByte, NoCode, NoFunction, Output}
use Rattle.wasm2text.specs.declared.printing.Ended.{Ended}
use Rattle.wasm2text.specs.declared.printing.Ended.TheVariants.{Printed as Delivered, Refused, Unwritten}
use Rattle.wasm2text.specs.Outcome.{Choice, Plain, Returns, HasTextIn, AreRefusedIn, IsBeginning, IsCutText, Writer, WritesAll, Delivers, StopsAfter, StaysBehind, Printing, printing, choice, is_late, EndsAs, EndsBy}

-- The pieces of text that calls write.
abbrev pieces_of : List Call → List (List ℕ)
pieces_of [] = []
pieces_of (Text bytes ∷ calls) = bytes ∷ pieces_of calls
pieces_of (Newline ∷ calls) = (10 ∷ []) ∷ pieces_of calls
pieces_of (Line place ∷ calls) = pieces_of calls
pieces_of (Start style ∷ calls) = pieces_of calls
pieces_of (Claim name place bytes claimed ∷ calls) = pieces_of calls

concat_pieces : (calls : List Call) → concat (pieces_of calls) ≡ text_of calls
concat_pieces [] = refl
concat_pieces (Text bytes ∷ calls) = ap (λ t. bytes ++ t) (concat_pieces calls)
concat_pieces (Newline ∷ calls) = ap (λ t. 10 ∷ t) (concat_pieces calls)
concat_pieces (Line place ∷ calls) = concat_pieces calls
concat_pieces (Start style ∷ calls) = concat_pieces calls
concat_pieces (Claim name place bytes claimed ∷ calls) = concat_pieces calls

-- Nothing was written.
pub writes_nothing : {W : Type 0} (w : Writer W) (s : W) → WritesAll w s [] s
writes_nothing w s = ([], refl, (refl, refl))

-- A text was written in one write.
pub writes_once : {W : Type 0} (w : Writer W) (s : W) (text : List ℕ) (t : W) → w.takes s text (Ok tt) t → WritesAll w s text t
writes_once w s text t h = (text ∷ [], append-nil text, inr (t, h, (refl, refl)))

-- The first write failed.
pub fails_at_once : {W : Type 0} (w : Writer W) (s : W) (text : List ℕ) (error : IoError) (t : W) → w.takes s text (Err error) t → StopsAfter w s [] error t
fails_at_once w s text error t h = (s, text, writes_nothing w s, h)

-- If the text was written, then it was delivered, or it stays behind.
pub ends_flushed : {W : Type 0} (w : Writer W) (old last new : W) (text : List ℕ) (answer : Result (Unit {0}) IoError) → WritesAll w old text last →
    w.flushes last answer new →
    MatchResult answer (λ x. Delivers w old text new) (λ error. w.takes old text (Err error) new ⊎ StaysBehind w old text error new)
ends_flushed w old last new text (Ok x) all flushed = (last, all, flushed)
ends_flushed w old last new text (Err error) all flushed = inr (last, all, flushed)

-- If the text was written, then printing the file ends as flushing the writer does.
pub ends_written : {W : Type 0} (p : Printing W) (file wasm text : List ℕ) (s t new : W) (ended : Ended) → p.may_read file (Ok wasm) →
    HasTextIn p.choice.form p.choice.options wasm text → WritesAll p.out s text t → EndsBy p.out t (Ok tt) ended new → EndsAs p s file ended new
ends_written p file wasm text s t new ended read has all (inl h) =
    subst (λ e. EndsAs p s file e new) (sym h.0) (wasm, text, read, has, (t, all, h.1))
ends_written p file wasm text s t new ended read has all (inr h) =
    subst (λ e. EndsAs p s file e new) (sym h.1) (wasm, text, read, inr (has, (t, all, h.2)))

-- If a write of the text failed, then printing the file ends with this error.
pub ends_unwritten : {W : Type 0} (p : Printing W) (file wasm text : List ℕ) (s new : W) (ended : Ended) (error : IoError) → ended ≡ Unwritten error →
    p.may_read file (Ok wasm) → IsCutText p.choice.form p.choice.options wasm text → StopsAfter p.out s text error new → EndsAs p s file ended new
ends_unwritten p file wasm text s new ended error e read begins stops =
    subst (λ x. EndsAs p s file x new) (sym e) (wasm, text, read, inl (begins, stops))

-- What was written before a module was refused.
abbrev LeavesText : {W : Type 0} → Printing W → W → List ℕ → Error → W → Type 0
LeavesText p s wasm error t =
    (text : List ℕ) × (is_late p.choice error ≡ false → text ≡ []) × IsBeginning p.choice.options wasm text × WritesAll p.out s text t

-- If the module was refused, then printing the file ends with this cause.
pub ends_refused : {W : Type 0} (p : Printing W) (file wasm : List ℕ) (s new : W) (ended : Ended) (error : Error) → ended ≡ Refused (Module error) →
    p.may_read file (Ok wasm) → AreRefusedIn p.choice.form p.choice.options wasm error → LeavesText p s wasm error new → EndsAs p s file ended new
ends_refused p file wasm s new ended error e read refused left =
    subst (λ x. EndsAs p s file x new) (sym e) (refl, (wasm, left.0, read, refused, left.1, left.2, left.3))

-- Nothing was written before.
pub leaves_nothing : {W : Type 0} (p : Printing W) (s : W) (wasm : List ℕ) (error : Error) (t : W) → t ≡ s → LeavesText p s wasm error t
leaves_nothing p s wasm error t e = ([], λ _. refl, inl refl, subst (λ x. WritesAll p.out s [] x) (sym e) (writes_nothing p.out s))

-- A printer that writes text to the writer that `inner` returns.
module _ {P W : Type 0} (inner : P → W) (w : Writer W) where
  abbrev own : Writes P
  own old bytes answer new = w.takes (inner old) bytes answer (inner new)

  -- A run of calls writes the pieces.
  run_writes : (s : P) (calls : List Call) (t : P) → Run (text_only own) s calls t → WritesEach w.takes (inner s) (pieces_of calls) (Ok tt) (inner t)
  run_writes s [] t r = (refl, ap inner (sym r))
  run_writes s (Text bytes ∷ calls) t r = inr (inner r.0, r.1.step, run_writes r.0 calls t r.2)
  run_writes s (Newline ∷ calls) t r = inr (inner r.0, r.1.step, run_writes r.0 calls t r.2)
  run_writes s (Line place ∷ calls) t r =
      subst (λ x. WritesEach w.takes x (pieces_of calls) (Ok tt) (inner t)) (ap inner r.1.step.1) (run_writes r.0 calls t r.2)
  run_writes s (Start style ∷ calls) t r =
      subst (λ x. WritesEach w.takes x (pieces_of calls) (Ok tt) (inner t)) (ap inner r.1.step.1) (run_writes r.0 calls t r.2)
  run_writes s (Claim name place bytes claimed ∷ calls) t r =
      subst (λ x. WritesEach w.takes x (pieces_of calls) (Ok tt) (inner t)) (ap inner r.1.step.2) (run_writes r.0 calls t r.2)

  run_writes_all : (s : P) (calls : List Call) (t : P) → Run (text_only own) s calls t → WritesAll w (inner s) (text_of calls) (inner t)
  run_writes_all s calls t r = (pieces_of calls, concat_pieces calls, run_writes s calls t r)

  -- A failed call is a failed write.
  last_write : (s : P) (call : Call) (error : IoError) (t : P) → IsText call → WritesTextOnly own s call (Err error) t →
      (piece : List ℕ) × w.takes (inner s) piece (Err error) (inner t)
  last_write s (Text bytes) error t is h = (bytes, h)
  last_write s Newline error t is h = (10 ∷ [], h)
  last_write s (Line place) error t is h = absurd is
  last_write s (Start style) error t is h = absurd is
  last_write s (Claim name place bytes claimed) error t is h = absurd is

  stops : (s t : P) (error : IoError) (laid : List Call) (b : Broken (text_only own) s t error laid) → StopsAfter w (inner s) (text_of b.calls) error (inner t)
  stops s t error laid b =
      let last = last_write b.before b.call error t b.failed.may b.failed.left in
      (inner b.before, last.0, run_writes_all s b.calls b.before b.run, last.1)

  -- If the module was printed, then its text was written.
  pub printed_writes : (o : Options) (wasm : List ℕ) (s t : P) → Printed (change (text_only own) s t) false o wasm →
      (text : List ℕ) × IsTextOf o wasm text × WritesAll w (inner s) text (inner t)
  printed_writes o wasm s t v =
      let plainly : IsPlainly o v.calls v.decoded.placed = plainly_printed v (takes_none own) in (
        text_of v.calls,
        module_text o v.decoded v.foldable plainly.accepted (text_of v.calls)
            (alike_texts v.calls (layout (with_color o false) no_claims v.decoded.placed) plainly.alike),
        run_writes_all s v.calls t v.run,
      )

  -- The calls up to a refused section are a prefix of the layout.
  up_to : (o : Options) (wasm : List ℕ) (s t : P) (id : ℕ) → WhilePrinting o wasm (MadeUpTo (change (text_only own) s t) id (with_color o false)) →
      WhilePrinting o wasm (λ placed answers. Interrupted (text_only own) s t (layout (with_color o false) answers placed))
  up_to o wasm s t id h = record {
    decoded = h.decoded;
    foldable = h.foldable;
    answers = h.answers;
    left = record {
      calls = h.left.made.calls;
      rest = [];
      run = h.left.made.run;
      alike = append-nil (atoms h.left.made.calls) ∙ h.left.made.alike;
    };
  }

  -- A prefix of the text was written.
  left_text : (o : Options) (may_read : List ℕ → Result (List ℕ) IoError → Type 0) (wasm : List ℕ) (s t : P) (error : Error) → is_late (choice o Plain) error ≡ true →
      WhilePrinting o wasm (λ placed answers. Interrupted (text_only own) s t (layout (with_color o false) answers placed)) →
      LeavesText (printing may_read (choice o Plain) w) (inner s) wasm error (inner t)
  left_text o may_read wasm s t error late h =
      let puts : PutsPrefix o wasm (λ text. WritesAll w (inner s) text (inner t)) =
      stopped_puts (change (text_only own) s t) (takes_none own) o wasm (λ text. WritesAll w (inner s) text (inner t))
      (λ calls run. run_writes_all s calls t run) h in (
        puts.left.0,
        λ early. absurd (let clash : true ≡ false = sym late ∙ early in cc),
        inr (record { decoded = puts.decoded; foldable = puts.foldable; answers = puts.answers; left = (puts.left.0, puts.left.1, refl) }),
        puts.left.2,
      )

  -- A module that is printed without colors.
  module _ (o : Options) (may_read : List ℕ → Result (List ℕ) IoError → Type 0) (file wasm : List ℕ) (s t : P) where
    abbrev plain : Printing W
    plain = printing may_read (choice o Plain) w

    -- If the module was refused, then printing the file ends with this error.
    refuses : (error : Error) (ended : Ended) (new : W) → may_read file (Ok wasm) → AreRefused o wasm error → LeavesText plain (inner s) wasm error (inner t) →
        (ended ≡ Refused (Module error)) × (new ≡ inner t) → EndsAs plain (inner s) file ended new
    refuses error ended new read refused left ends =
        subst (λ z. EndsAs plain (inner s) file ended z) (sym ends.1)
        (ends_refused plain file wasm (inner s) (inner t) ended error ends.0 read refused left)

    nothing : (error : Error) → t ≡ s → LeavesText plain (inner s) wasm error (inner t)
    nothing error same = leaves_nothing plain (inner s) wasm error (inner t) (ap inner same)

    -- How printing the file ends if printing its module returned this error.
    ends_after : (error : Error) (ended : Ended) (new : W) → may_read file (Ok wasm) → IsTextRefusal o wasm (without_printer error) →
        ((error ≡ Component) ↔ IsComponent wasm) → Leaves (change (text_only own) s t) false o wasm error → EndsBy w (inner t) (Err error) ended new →
        EndsAs plain (inner s) file ended new
    ends_after (Printer x) ended new read refused component left ends =
        let puts : PutsPrefix o wasm (λ text. StopsAfter w (inner s) text x (inner t)) =
        failed_puts (change (text_only own) s t) (takes_none own) o wasm (λ text. StopsAfter w (inner s) text x (inner t)) x
        (λ laid b. stops s t x laid b) left in
        subst (λ z. EndsAs plain (inner s) file ended z) (sym ends.1)
        (ends_unwritten plain file wasm puts.left.0 (inner s) (inner t) ended x ends.0 read
        (record { decoded = puts.decoded; foldable = puts.foldable; answers = puts.answers; left = (puts.left.0, puts.left.1, refl) }) puts.left.2)
    ends_after Memory ended new read refused component (inl same) ends =
        refuses Memory ended new read (record { refused = refused; component = component }) (nothing Memory same) ends
    ends_after Memory ended new read refused component (inr begun) ends =
        refuses Memory ended new read (record { refused = refused; component = component }) (left_text o may_read wasm s t Memory begun.0 begun.1) ends
    ends_after (DylinkSubsection id) ended new read refused component left ends =
        refuses (DylinkSubsection id) ended new read (record { refused = refused; component = component })
        (left_text o may_read wasm s t (DylinkSubsection id) refl (up_to o wasm s t id left)) ends
    ends_after (Malformed place) ended new read refused component left ends =
        refuses (Malformed place) ended new read (record { refused = refused; component = component }) (nothing (Malformed place) left) ends
    ends_after Component ended new read refused component left ends =
        refuses Component ended new read (record { refused = refused; component = component }) (nothing Component left) ends
    ends_after (TooManyLocals place) ended new read refused component left ends =
        refuses (TooManyLocals place) ended new read (record { refused = refused; component = component }) (nothing (TooManyLocals place) left) ends
    ends_after (TooManyFunctions count) ended new read refused component left ends =
        refuses (TooManyFunctions count) ended new read (record { refused = refused; component = component }) (nothing (TooManyFunctions count) left) ends
    ends_after (EmptyTableInit place) ended new read refused component left ends =
        refuses (EmptyTableInit place) ended new read (record { refused = refused; component = component }) (nothing (EmptyTableInit place) left) ends
    ends_after (FoldLegacy place) ended new read refused component left ends =
        refuses (FoldLegacy place) ended new read (record { refused = refused; component = component }) (nothing (FoldLegacy place) left) ends
    ends_after (FoldHint place) ended new read refused component left ends =
        refuses (FoldHint place) ended new read (record { refused = refused; component = component }) (nothing (FoldHint place) left) ends
    ends_after Unreadable ended new read refused component left ends = absurd left

    -- How printing the file ends, by the result of printing its module.
    pub ends_printed : (printed : Result (Unit {0}) Error) (ended : Ended) (new : W) → may_read file (Ok wasm) →
        OnOk printed (Printed (change (text_only own) s t) false o wasm) → IfErr printed (IsPrintRefusal (change (text_only own) s t) o wasm) →
        IfErr printed (Leaves (change (text_only own) s t) false o wasm) → (IsErrOf printed Component ↔ IsComponent wasm) →
        EndsBy w (inner t) printed ended new → EndsAs plain (inner s) file ended new
    ends_printed (Ok x) ended new read is_printed refused left component ends =
        let text = printed_writes o wasm s t is_printed in
        ends_written plain file wasm text.0 (inner s) (inner t) new ended read text.1 text.2 ends
    ends_printed (Err error) ended new read is_printed refused left component ends =
        ends_after error ended new read (text_refusal false refused (takes_none own) left) (component_error error component) left ends

-- If reading a file returned these bytes, then printing the file ends as printing its module.
pub ends_from : {W : Type 0} (may_read : List ℕ → Result (List ℕ) IoError → Type 0) (by : Choice) (w : Writer W) (wasm file : List ℕ) (old : W) (ended : Ended)
    (new : W) → may_read file (Ok wasm) → EndsAs (printing (Returns wasm) by w) old [] ended new → EndsAs (printing may_read by w) old file ended new
ends_from may_read by w wasm file old Delivered new read h = (h.0, h.1, rw h.2 read, h.3, h.4)
ends_from may_read by w wasm file old (Refused (Unread error)) new read h = (h.0, (rw h.1.0 read, h.1.1))
ends_from may_read by w wasm file old (Refused (Module error)) new read h = (h.0, (h.1.0, h.1.1, rw h.1.2 read, h.1.3, h.1.4, h.1.5, h.1.6))
ends_from may_read by w wasm file old (Refused (NoByte offset len)) new read h = (h.0, (h.1.0, h.1.1, rw h.1.2 read, h.1.3, h.1.4, h.1.5))
ends_from may_read by w wasm file old (Refused NoCode) new read h = (h.0, (h.1.0, h.1.1, rw h.1.2 read, h.1.3, h.1.4, h.1.5))
ends_from may_read by w wasm file old (Refused NoFunction) new read h = (h.0, (h.1.0, h.1.1, rw h.1.2 read, h.1.3, h.1.4, h.1.5))
ends_from may_read by w wasm file old (Refused (Output error)) new read h = (h.0, (h.1.0, h.1.1, rw h.1.2 read, h.1.3))
ends_from may_read by w wasm file old (Unwritten error) new read h = (h.0, h.1, rw h.2 read, h.3)
