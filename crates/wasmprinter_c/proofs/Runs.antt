-- The state of a printer over a buffer after calls that succeed.
use Rattle.std.proofs.Common.{◌≡◌, ℕ, ◌+◌, ◌^◌, ◌≤◌, ◌<◌, List, [], ◌∷◌, ◌++◌, length, map, refl, sym, ap, ◌∙◌, subst, append_assoc, append-nil, length-append, arith}
use Rattle.std.specs.Prelude.{Bool, false, Some, None, slice_get, Result, Ok, Err, OnOk}
use Rattle.std.specs.List.{AllByRecursion}
use Rattle.wasmprinter_bytes.specs.declared.library_error.Error.{Error}
use Rattle.wasmprinter_spec.specs.Call.{Call, Text, Newline, Line, Start, Claim, IsUnclaimed, text_of, atoms}
use Rattle.wasmprinter_spec.specs.Lines.{TextLine, lines_of, joined_lines, line_places, hint_places, HasFunctionLines}
use Rattle.wasmprinter_spec.specs.Meaning.{Run}
use Rattle.wasmprinter_spec.specs.Options.{Options, Answers, with_color}
use Rattle.wasmprinter_spec.specs.Placed.{PlacedFunction, PlacedModule}
use Rattle.wasmprinter_spec.specs.Layout.{layout, refusal}
use Rattle.wasmprinter_spec.specs.Folding.Refusals.{IsFoldable}
use Rattle.wasmprinter_spec.proofs.Texts.{alike_texts}
use Rattle.wasmprinter_laws.proofs.Lines.Starts.{lines_join}
use Rattle.wasmprinter_laws.proofs.Lines.FunctionLines.{function_lines}
use Rattle.wasmprinter_writers.specs.Cuts.{lines_at_starts}
use Rattle.wasmprinter_print.specs.Change.{Change, change}
use Rattle.wasmprinter_laws.proofs.Main.{reads_back, prints_plain_text}
use Rattle.wasmprinter_laws.proofs.Hints.Kept.{hints_stay}
use Rattle.wasmprinter.specs.Decoded.{Decoded}
use Rattle.wasmprinter.specs.Printed.{Printed, no_claims}
use Rattle.wasmprinter.proofs.Claims.{IsSame, alike_unclaimed, unclaimed_layout}
use Rattle.wasmprinter.proofs.Headline.{foldable_in}
use Rattle.wasmprinter.proofs.Texts.{module_text}
use Rattle.wasmprinter_c.specs.Over.{over, over_from}
use Rattle.wasmprinter_c.specs.Copied.{Grows, Records, CopiedAfter, copied_meaning}
use Rattle.wasmprinter_c.specs.Omitted.{IsListOf, answers_for, IsAnsweredFor}
use Rattle.wasmprinter_c.specs.Without.{IsTextWithout}
use Rattle.wasmprinter_c.specs.Printing.{request, buffers, HasAllSections, HasEventsOver}
use Rattle.wasmprinter_c.specs.Events.{call_events, events, line_start, line_starts}
use Rattle.wasmprinter_c.specs.declared.buffer_and_event_printer.WasmprinterEvent.{WasmprinterEvent}
use Rattle.wasmprinter_c.specs.declared.buffer_and_event_printer.Copier.{Copier}
use Rattle.wasmprinter_c.proofs.Overs.{over_more}
use Rattle.wasmprinter_c.proofs.Cuts.{lines-cut}
use Rattle.wasmprinter_c.proofs.OnlyLines.{only-lines}
use Rattle.wasmprinter_c.proofs.Bounds.{layout_lines}
use Rattle.wasmprinter_c.proofs.NameLists.{no_names}
use Rattle.wasmprinter_c.proofs.Answered.{AreAnswered, alike_answered, IsLayoutFor, answered_layout}

-- The change of a printer over a buffer.
abbrev pub copying : Copier → Copier → Change Copier
copying old new = change copied_meaning old new

-- Each call answers by the printer's list of names, and keeps the list.
call_answered : (names : List (List ℕ)) (s : Copier) (c : Call) (t : Copier) → CopiedAfter s c t → IsListOf names s.omitted.now → IsAnsweredFor names c
call_answered names s (Text bytes) t h l = tt
call_answered names s Newline t h l = tt
call_answered names s (Line place) t h l = tt
call_answered names s (Start style) t h l = tt
call_answered names s (Claim name place bytes answer) t h l = h.0 names l

grown_list : (s t : Copier) (y : List ℕ) → Grows s y t → t.omitted ≡ s.omitted
grown_list s t y (same, written, counted, small, short, limit, omitted, choice, table, count) = omitted

recorded_list : (s t : Copier) (es : List WasmprinterEvent) → Records s es t → t.omitted ≡ s.omitted
recorded_list s t es (out, written, limit, omitted, choice, same, begun) = omitted

same_list : (s : Copier) (c : Call) (t : Copier) → CopiedAfter s c t → t.omitted ≡ s.omitted
same_list s (Text bytes) t h = grown_list s t bytes h
same_list s Newline t h = grown_list s t (10 ∷ []) h
same_list s (Line place) t h = recorded_list s t (call_events s.all_events s.written (Line place)) h
same_list s (Start style) t h = recorded_list s t (call_events s.all_events s.written (Start style)) h
same_list s (Claim name place bytes answer) t h = recorded_list s t (call_events s.all_events s.written (Claim name place bytes answer)) h.1

-- A run answers each claim by the printer's list of names.
pub run_answered : (names : List (List ℕ)) (s t : Copier) (cs : List Call) → IsListOf names s.omitted.now → Run copied_meaning s cs t → AreAnswered names cs
run_answered names s t [] l r = tt
run_answered names s t (c ∷ cs) l (between, called, rest) = (
  call_answered names s c between called.step l,
  run_answered names between t cs (subst (λ (o : _). IsListOf names o.now) (sym (same_list s c between called.step)) l) rest,
)

-- This text was written over the buffer of a printer to which nothing had been printed. These events were written
-- over its table, if they can be counted.
pub record HasCopied (old : Copier) (text : List ℕ) (table : List WasmprinterEvent) (new : Copier) : Type 0 where
  pub same_buffer : new.out.ghost_name ≡ old.out.ghost_name
  pub copied : new.out.now ≡ over text old.out.now
  pub counted : new.written ≡ length text
  pub small : new.written < 2 ^ 64
  pub short : new.written ≤ new.limit
  pub same_limit : new.limit ≡ old.limit
  pub same_choice : new.all_events ≡ old.all_events
  pub same_table : new.table.ghost_name ≡ old.table.ghost_name
  pub recorded : length table < 2 ^ 64 → (new.table.now ≡ over table old.table.now) × (new.count ≡ length table)

-- A further text is appended to what was written.
copied_text : (old s t : Copier) (x y : List ℕ) (es : List WasmprinterEvent) → HasCopied old x es s → Grows s y t → HasCopied old (x ++ y) es t
copied_text old s t x y es h (same, written, counted, small, short, limit, omitted, choice, table, count) = record {
  same_buffer = same ∙ h.same_buffer;
  copied = written ∙ ap (λ (n : ℕ). over_from n y s.out.now) h.counted ∙ ap (λ (o : List ℕ). over_from (length x) y o) h.copied
      ∙ over_more x y old.out.now;
  counted = counted ∙ ap (λ (n : ℕ). n + length y) h.counted ∙ sym (length-append x y);
  small = small;
  short = short;
  same_limit = limit ∙ h.same_limit;
  same_choice = choice ∙ h.same_choice;
  same_table = ap (λ l. l.ghost_name) table ∙ h.same_table;
  recorded = λ few.
      let before = h.recorded few in
      (ap (λ l. l.now) table ∙ before.0, count ∙ before.1);
}

-- Further events are appended to the table.
copied_events : (old s t : Copier) (x : List ℕ) (es fs : List WasmprinterEvent) → HasCopied old x es s → Records s fs t → HasCopied old x (es ++ fs) t
copied_events old s t x es fs h (out, written, limit, omitted, choice, same, begun) = record {
  same_buffer = ap (λ o. o.ghost_name) out ∙ h.same_buffer;
  copied = ap (λ o. o.now) out ∙ h.copied;
  counted = written ∙ h.counted;
  small = subst (λ (n : ℕ). n < 2 ^ 64) (sym written) h.small;
  short = subst (λ (n : ℕ). n ≤ t.limit) (sym written) (subst (λ (n : ℕ). s.written ≤ n) (sym limit) h.short);
  same_limit = limit ∙ h.same_limit;
  same_choice = choice ∙ h.same_choice;
  same_table = same ∙ h.same_table;
  recorded = λ few.
      let more = length-append es fs in
      let before = h.recorded (omega (arith, few, more)) in
      let count = before.1 in
      let now = begun (omega (arith, few, more, count)) in (
        now.0 ∙ ap (λ (n : ℕ). over_from n fs s.table.now) before.1
            ∙ ap (λ (l : List WasmprinterEvent). over_from (length es) fs l) before.0
            ∙ over_more es fs old.table.now,
        now.1 ∙ ap (λ (n : ℕ). n + length fs) before.1 ∙ sym more,
      );
}

-- The events of a call on a printer, by what was written and chosen before.
copied_call : (old s t : Copier) (x : List ℕ) (es : List WasmprinterEvent) (c : Call) → HasCopied old x es s →
    Records s (call_events s.all_events s.written c) t → HasCopied old x (es ++ call_events old.all_events (length x) c) t
copied_call old s t x es c h r =
    copied_events old s t x es (call_events old.all_events (length x) c) h
    (subst (λ (n : ℕ). Records s (call_events old.all_events n c) t) h.counted
    (subst (λ (b : Bool). Records s (call_events b s.written c) t) h.same_choice r))

-- A text before further calls can be joined with their text.
front : (old t : Copier) (x y : List ℕ) (es : List WasmprinterEvent) (cs : List Call) →
    HasCopied old ((x ++ y) ++ text_of cs) (es ++ events old.all_events (length (x ++ y)) cs) t →
    HasCopied old (x ++ (y ++ text_of cs)) (es ++ events old.all_events (length x + length y) cs) t
front old t x y es cs h =
    subst (λ (z : List ℕ). HasCopied old z (es ++ events old.all_events (length x + length y) cs) t) (append_assoc x y (text_of cs))
    (subst (λ (n : ℕ). HasCopied old ((x ++ y) ++ text_of cs) (es ++ events old.all_events n cs) t) (length-append x y) h)

-- Events before further calls can be joined with theirs.
joined : (old t : Copier) (z : List ℕ) (es fs gs : List WasmprinterEvent) → HasCopied old z ((es ++ fs) ++ gs) t → HasCopied old z (es ++ (fs ++ gs)) t
joined old t z es fs gs h = subst (λ (l : List WasmprinterEvent). HasCopied old z l t) (append_assoc es fs gs) h

-- Further calls append their text and their events.
copied_calls : (old s t : Copier) (x : List ℕ) (es : List WasmprinterEvent) (cs : List Call) → HasCopied old x es s → Run copied_meaning s cs t →
    HasCopied old (x ++ text_of cs) (es ++ events old.all_events (length x) cs) t
copied_calls old s t x es [] h r =
    subst (λ (z : List ℕ). HasCopied old z (es ++ []) t) (sym (append-nil x))
    (subst (λ (l : List WasmprinterEvent). HasCopied old x l t) (sym (append-nil es)) (subst (λ (u : Copier). HasCopied old x es u) r h))
copied_calls old s t x es (Text y ∷ cs) h (between, called, rest) =
    front old t x y es cs (copied_calls old between t (x ++ y) es cs (copied_text old s between x y es h called.step) rest)
copied_calls old s t x es (Newline ∷ cs) h (between, called, rest) =
    front old t x (10 ∷ []) es cs (copied_calls old between t (x ++ 10 ∷ []) es cs (copied_text old s between x (10 ∷ []) es h called.step) rest)
copied_calls old s t x es (Line place ∷ cs) h (between, called, rest) =
    joined old t (x ++ text_of cs) es (call_events old.all_events (length x) (Line place)) (events old.all_events (length x) cs)
    (copied_calls old between t x (es ++ call_events old.all_events (length x) (Line place)) cs (copied_call old s between x es (Line place) h called.step) rest)
copied_calls old s t x es (Start style ∷ cs) h (between, called, rest) =
    joined old t (x ++ text_of cs) es (call_events old.all_events (length x) (Start style)) (events old.all_events (length x) cs)
    (copied_calls old between t x (es ++ call_events old.all_events (length x) (Start style)) cs (copied_call old s between x es (Start style) h called.step) rest)
copied_calls old s t x es (Claim name place bytes answer ∷ cs) h (between, called, rest) =
    joined old t (x ++ text_of cs) es (call_events old.all_events (length x) (Claim name place bytes answer)) (events old.all_events (length x) cs)
    (copied_calls old between t x (es ++ call_events old.all_events (length x) (Claim name place bytes answer)) cs
    (copied_call old s between x es (Claim name place bytes answer) h called.step.1) rest)

-- Nothing was printed to the printer.
pub record IsFresh (c : Copier) : Type 0 where
  pub text : c.written ≡ 0
  pub table : c.count ≡ 0

-- A run on a printer to which nothing was printed writes the text and the events of its calls.
pub run_copied : (old new : Copier) (calls : List Call) → IsFresh old → Run copied_meaning old calls new →
    HasCopied old (text_of calls) (events old.all_events 0 calls) new
run_copied old new calls fresh r =
    let none = fresh.text in
    copied_calls old old new [] [] calls
    (record {
      same_buffer = refl;
      copied = refl;
      counted = fresh.text;
      small = omega (arith, none);
      short = omega (arith, none);
      same_limit = refl;
      same_choice = refl;
      same_table = refl;
      recorded = λ few. (refl, fresh.table);
    }) r

-- ---- The events of calls that differ only in how text is split

module _ (all : Bool) where
  bytes_events : (at : ℕ) (s : List ℕ) (k : List Call) → events all at (map (λ b. Text (b ∷ [])) s ++ k) ≡ events all (at + length s) k
  bytes_events at [] k = let same : at ≡ at + length {A = ℕ} [] = omega arith in ap (λ (n : ℕ). events all n k) same
  bytes_events at (b ∷ s) k =
      let same : at + length (b ∷ []) + length s ≡ at + length (b ∷ s) = omega arith in
      bytes_events (at + length (b ∷ [])) s k ∙ ap (λ (n : ℕ). events all n k) same

  events-atoms : (at : ℕ) (cs : List Call) → events all at (atoms cs) ≡ events all at cs
  events-atoms at [] = refl
  events-atoms at (Text s ∷ cs) = bytes_events at s (atoms cs) ∙ events-atoms (at + length s) cs
  events-atoms at (Newline ∷ cs) = events-atoms (at + 1) cs
  events-atoms at (Line place ∷ cs) = ap (λ (l : List WasmprinterEvent). call_events all at (Line place) ++ l) (events-atoms at cs)
  events-atoms at (Start style ∷ cs) = ap (λ (l : List WasmprinterEvent). call_events all at (Start style) ++ l) (events-atoms at cs)
  events-atoms at (Claim name place bytes answer ∷ cs) =
      ap (λ (l : List WasmprinterEvent). call_events all at (Claim name place bytes answer) ++ l) (events-atoms at cs)

  alike_events : (k l : List Call) → atoms k ≡ atoms l → events all 0 k ≡ events all 0 l
  alike_events k l e = sym (events-atoms 0 k) ∙ ap (λ (c : List Call). events all 0 c) e ∙ events-atoms 0 l

-- ---- A module that was printed completely

-- The text of the layout in which the sections with these names are claimed is that of the module without them.
abbrev text_without : (names : List (List ℕ)) (o : Options) {bytes : List ℕ} (d : Decoded bytes) → IsFoldable o d.placed →
    refusal (with_color o false) (answers_for names d.placed) d.placed ≡ None → IsTextWithout names o bytes (text_of (layout (with_color o false) (answers_for names d.placed) d.placed))
text_without names o {bytes} d foldable accepted =
    let by : Options = with_color o false in
    let placed : PlacedModule = d.placed in
    let answers : Answers = answers_for names placed in
    let can_fold : IsFoldable by placed = foldable_in o false placed foldable in
    record {
      decoded = d;
      foldable = foldable;
      accepted = accepted;
      is = refl;
      plain = λ spaces. prints_plain_text bytes placed by answers d.spelled refl spaces;
      reads = λ indexed whole spaces none. reads_back bytes placed by answers d.spelled indexed d.within.tables whole refl spaces none can_fold accepted;
      hints = λ hs whole spaces given. hints_stay bytes placed by answers hs d.spelled whole refl spaces can_fold accepted given;
    }

-- Calls that are answered by no names claim no section.
answered_none : (c : Call) → IsAnsweredFor [] c → IsUnclaimed c
answered_none (Text s) h = tt
answered_none Newline h = tt
answered_none (Line place) h = tt
answered_none (Start style) h = tt
answered_none (Claim name place bytes answer) h = h

unclaimed : (cs : List Call) → AreAnswered [] cs → AllByRecursion IsUnclaimed cs
unclaimed [] h = tt
unclaimed (c ∷ cs) h = (answered_none c h.0, unclaimed cs h.1)

module _ (all : Bool) (o : Options) {bytes : List ℕ} (d : Decoded bytes) where
  abbrev by : Options
  by = with_color o false

  -- The calls of the layout with these answers, and their events.
  abbrev laid_by : Answers → List Call
  laid_by answers = layout by answers d.placed

  abbrev table_by : Answers → List WasmprinterEvent
  table_by answers = events all 0 (laid_by answers)

  -- The text of the layout, cut where the lines of its events start, has the lines of the layout.
  lines-are : (answers : Answers) → lines_at_starts (line_starts (table_by answers)) (text_of (laid_by answers)) ≡ lines_of (laid_by answers)
  lines-are answers =
      ap (λ (l : List WasmprinterEvent). lines_at_starts (map line_start l) (text_of (laid_by answers))) (only-lines all 0 (laid_by answers)) ∙ lines-cut [] (laid_by answers)

  -- Each function has its lines in them.
  lines-functions : (answers : Answers) → refusal by answers d.placed ≡ None → o.skeleton ≡ false → o.folds ≡ false → (i : ℕ) (f : PlacedFunction) →
      slice_get d.placed.functions i ≡ Some f →
      HasFunctionLines (hint_places d.placed) (line_places (lines_at_starts (line_starts (table_by answers)) (text_of (laid_by answers)))) f
  lines-functions answers accepted whole flat i f e =
      subst (λ (ls : List TextLine). HasFunctionLines (hint_places d.placed) (line_places ls) f) (sym (lines-are answers))
      (function_lines bytes d.placed by answers d.spelled whole flat accepted i f e)

  -- The text, lines and events of the layout without claims are those of the library for Rattle.
  all_sections : (limit : ℕ) (omitted : List ℕ) → IsFoldable o d.placed → refusal by no_claims d.placed ≡ None →
      HasAllSections (request o all limit omitted) bytes (text_of (laid_by no_claims)) (table_by no_claims)
  all_sections limit omitted foldable accepted = record {
    lines = record {
      text = text_of (laid_by no_claims);
      printed = module_text o d foldable accepted (text_of (laid_by no_claims)) refl;
      appended = refl;
      are = lines-are no_claims;
      joined = ap joined_lines (lines-are no_claims) ∙ lines_join by no_claims d.placed;
      functions = lines-functions no_claims accepted;
    };
    placed = refl;
  }

pub printed_over : (names : List (List ℕ)) (o : Options) (bytes : List ℕ) (old new : Copier) → IsListOf names old.omitted.now → IsFresh old →
    Printed (copying old new) false o bytes →
    HasEventsOver (request o old.all_events old.limit old.omitted.now) bytes (buffers old.out.now new.out.now old.table.now new.table.now) new.written new.count
printed_over names o bytes old new listed fresh v =
    let own_by : Options = with_color o false in
    let all : Bool = old.all_events in
    let d : Decoded bytes = v.decoded in
    let placed : PlacedModule = d.placed in
    let answers : Answers = answers_for names placed in
    let asked : AreAnswered names v.calls = run_answered names old new v.calls listed v.run in
    let own : IsLayoutFor names own_by v.answers placed = answered_layout names own_by v.answers placed (alike_answered names v.calls (layout own_by v.answers placed) v.alike asked) in
    let accepted : refusal own_by answers placed ≡ None = sym own.refusal ∙ v.accepted in
    let laid : List Call = layout own_by answers placed in
    let alike : atoms v.calls ≡ atoms laid = v.alike ∙ ap atoms own.layout in
    let has : HasCopied old (text_of v.calls) (events all 0 v.calls) new = run_copied old new v.calls fresh v.run in
    let same : text_of v.calls ≡ text_of laid = alike_texts v.calls laid alike in
    let table : events all 0 v.calls ≡ events all 0 laid = alike_events all v.calls laid alike in
    let few : length (events false 0 laid) ≤ length (text_of laid) = layout_lines own_by answers placed in
    let counted : new.written ≡ length (text_of laid) = has.counted ∙ ap length same in
    let small = has.small in
    let entered : (n : length (events all 0 laid) < 2 ^ 64) → (new.table.now ≡ over (events all 0 v.calls) old.table.now) × (new.count ≡ length (events all 0 v.calls)) =
    λ n. has.recorded (subst (λ (l : List WasmprinterEvent). length l < 2 ^ 64) (sym table) n) in
    record {
      names = names;
      listed = listed;
      text = text_of laid;
      table = events all 0 laid;
      lines = record {
        printed = text_without names o d v.foldable accepted;
        are = lines-are all o d answers;
        joined = ap joined_lines (lines-are all o d answers) ∙ lines_join own_by answers placed;
        functions = lines-functions all o d answers accepted;
      };
      placed = refl;
      all = λ empty.
          let none : AllByRecursion IsUnclaimed v.calls =
          unclaimed v.calls (subst (λ (ns : List (List ℕ)). AreAnswered ns v.calls) (no_names names (subst (IsListOf names) empty listed)) asked) in
          let plain : IsSame own_by v.answers placed = unclaimed_layout own_by v.answers placed (alike_unclaimed v.calls (layout own_by v.answers placed) v.alike none) in
          subst (λ (cs : List Call). HasAllSections (request o all old.limit old.omitted.now) bytes (text_of cs) (events all 0 cs)) (sym plain.layout ∙ own.layout)
          (all_sections all o d old.limit old.omitted.now v.foldable (sym plain.refusal ∙ v.accepted));
      copied = has.copied ∙ ap (λ (t : List ℕ). over t old.out.now) same;
      counted = counted;
      short = subst (λ (n : ℕ). new.written ≤ n) has.same_limit has.short;
      few = λ e. subst (λ (a : Bool). length (events a 0 laid) < 2 ^ 64) (sym e) (omega (arith, few, counted, small));
      entered = λ n. (entered n).0 ∙ ap (λ (l : List WasmprinterEvent). over l old.table.now) table;
      numbered = λ n. (entered n).1 ∙ ap (λ (l : List WasmprinterEvent). length l) table;
    }

pub on_ok_over : {T : Type 0} (names : List (List ℕ)) (o : Options) (bytes : List ℕ) (old new : Copier) (r : Result T Error) → IsListOf names old.omitted.now → IsFresh old →
    OnOk r (Printed (copying old new) false o bytes) →
    OnOk r (HasEventsOver (request o old.all_events old.limit old.omitted.now) bytes (buffers old.out.now new.out.now old.table.now new.table.now) new.written new.count)
on_ok_over names o bytes old new (Ok x) listed fresh v = printed_over names o bytes old new listed fresh v
on_ok_over names o bytes old new (Err e) listed fresh v = tt
