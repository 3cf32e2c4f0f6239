-- A description is short, so all of it is counted.
use Rattle.std.proofs.Common.{◌≡◌, ℕ, ◌≤◌, ◌+◌, List, [], ◌∷◌, ◌++◌, length, ap, ◌∙◌, append-nil, length-append, arith}
use Rattle.std.specs.Prelude.{Bool, true, false, codes, decimal, Result, Ok, Err, if◌then◌else◌, ◌==◌}
use Rattle.std.specs.Fmt.{digits}
use Rattle.std.specs.declared.io.Error.{Error as IoError}
use Rattle.wasmprinter_bytes.specs.declared.library_error.Error.{Error}
use Rattle.wasmprinter_bytes.specs.declared.library_error.Error.TheVariants.{Printer}
use Rattle.wasmprinter_spec.specs.Call.{Text, text_of}
use Rattle.wasmprinter_spec.proofs.Texts.{alike_texts}
use Rattle.wasmprinter_text.proofs.Digits.{digits-length}
use Rattle.wasmprinter_print.specs.MadeCalls.{Whole, Broken, MadeCalls, outcome}
use Rattle.wasmprinter_c.specs.Over.{over}
use Rattle.wasmprinter_c.specs.Copied.{copied_meaning}
use Rattle.wasmprinter_c.specs.Events.{events}
use Rattle.wasmprinter_c.specs.Messages.{message, with_place, with_number}
use Rattle.wasmprinter_c.specs.declared.buffer_and_event_printer.Copier.{Copier}
use Rattle.wasmprinter_c.proofs.Runs.{HasCopied, IsFresh, run_copied}
use Rattle.wasmprinter_c.proofs.Left.{broken_long}

-- A text of at most 200 bytes.
abbrev pub IsShort : List ℕ → Type 0
IsShort text = length text ≤ 200

short_if : (b : Bool) (x y : List ℕ) → IsShort x → IsShort y → IsShort (if b then x else y)
short_if true x y h k = h
short_if false x y h k = k

short_place : (before after : List ℕ) (n : ℕ) → length before + length after ≤ 100 → IsShort (with_place before n after)
short_place before after n h =
    let e₁ = length-append before (digits 16 false n ++ after) in
    let e₂ = length-append (digits 16 false n) after in
    let d = digits-length 16 n in
    omega (arith, h, e₁, e₂, d)

short_number : (before after : List ℕ) (n : ℕ) → length before + length after ≤ 100 → IsShort (with_number before n after)
short_number before after n h =
    let e₁ = length-append before (decimal n ++ after) in
    let e₂ = length-append (decimal n) after in
    let d : length (decimal n) ≤ 64 = digits-length 10 n in
    omega (arith, h, e₁, e₂, d)

pub short_message : (status detail : ℕ) → IsShort (message status detail)
short_message status detail =
    short_if (status == 0) _ _ (omega arith)
    (short_if (status == 1) _ _ (short_place (codes "malformed module at byte 0x") (codes "") detail (omega arith))
    (short_if (status == 2) _ _ (omega arith)
    (short_if (status == 3) _ _ (short_place (codes "function at byte 0x") (codes " has more than 50000 locals") detail (omega arith))
    (short_if (status == 4) _ _ (short_number (codes "module has ") (codes " functions, more than 1000000") detail (omega arith))
    (short_if (status == 5) _ _ (short_place (codes "table at byte 0x") (codes " has an empty initialiser") detail (omega arith))
    (short_if (status == 6) _ _ (short_place (codes "legacy exception operator at byte 0x") (codes " can't be folded") detail (omega arith))
    (short_if (status == 7) _ _ (short_place (codes "branch hint at byte 0x") (codes " can't be folded") detail (omega arith))
    (short_if (status == 8) _ _ (short_number (codes "unknown dylink.0 subsection ") (codes "") detail (omega arith))
    (short_if (status == 9) _ _ (omega arith)
    (short_if (status == 10) _ _ (omega arith)
    (short_if (status == 11) _ _ (omega arith)
    (short_if (status == 12) _ _ (omega arith)
    (short_if (status == 13) _ _ (short_place (codes "unknown options 0x") (codes "") detail (omega arith))
    (short_if (status == 14) _ _ (short_place (codes "the list of names is cut off at byte 0x") (codes "") detail (omega arith)) (omega arith)))))))))))))))

-- All bytes of a short text are counted, and its first bytes are written over the buffer, as many as fit.
pub record HasAll (old : Copier) (text : List ℕ) (new : Copier) : Type 0 where
  pub copied : new.out.now ≡ over text old.out.now
  pub counted : new.written ≡ length text
  pub same_buffer : new.out.ghost_name ≡ old.out.ghost_name
  pub same_table : new.table.ghost_name ≡ old.table.ghost_name

whole_written : (old new : Copier) (text : List ℕ) → IsFresh old → Whole copied_meaning old new (Text text ∷ []) → HasAll old text new
whole_written old new text fresh w =
    let has : HasCopied old (text_of w.calls) (events old.all_events 0 w.calls) new = run_copied old new w.calls fresh w.run in
    let is : text_of w.calls ≡ text = alike_texts w.calls (Text text ∷ []) w.alike ∙ append-nil text in
    record {
      copied = has.copied ∙ ap (λ (t : List ℕ). over t old.out.now) is;
      counted = has.counted ∙ ap length is;
      same_buffer = has.same_buffer;
      same_table = has.same_table;
    }

never_broken : (old new : Copier) (x : IoError) (text : List ℕ) → IsFresh old → 200 ≤ old.limit → IsShort text → Broken copied_meaning old new x (Text text ∷ []) → ⊥
never_broken old new x text fresh roomy short b =
    let long = broken_long old fresh new x (Text text ∷ []) b in
    let same = ap length (append-nil text) in
    omega (arith, long, same, roomy, short)

emitted : (old new : Copier) (r : Result (Unit {0}) Error) (text : List ℕ) → IsFresh old → 200 ≤ old.limit → IsShort text → MadeCalls copied_meaning old new (outcome r) (Text text ∷ []) → HasAll old text new
emitted old new (Ok x) text fresh roomy short m = whole_written old new text fresh m.made
emitted old new (Err (Printer e)) text fresh roomy short m = absurd (never_broken old new e text fresh roomy short m.made)
emitted old new (Err _) text fresh roomy short m = absurd m.made

pub described : (old new : Copier) (r : Result (Unit {0}) Error) (status detail : ℕ) → old.written ≡ 0 → old.count ≡ 0 → 200 ≤ old.limit →
    MadeCalls copied_meaning old new (outcome r) (Text (message status detail) ∷ []) → HasAll old (message status detail) new
described old new r status detail text table roomy m =
    emitted old new r (message status detail) (record { text = text; table = table }) roomy (short_message status detail) m
