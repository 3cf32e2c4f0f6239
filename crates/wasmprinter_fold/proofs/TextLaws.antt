-- The effect of calls on a buffer of texts: it grows by their text, with escape sequences if texts contain them.
use Rattle.std.proofs.Common.{◌≡◌, ℕ, Bool, true, false, List, [], ◌∷◌, ◌++◌, refl, sym, ◌∙◌, ap, ap₂, subst, append_assoc, ltb, ◌<◌, true≢false, if◌then◌else◌}
use Rattle.std.proofs.lemmas.List.{append-nil}
use Rattle.std.proofs.lemmas.Str.{IsUtf8-append, IsUtf8-nil, IsUtf8-from_ascii}
use Rattle.std.proofs.lemmas.Str.Ascii.{IsAscii-nil, IsAscii-cons}
use Rattle.std.proofs.lemmas.Bool.{ltb-true}
use Rattle.std.specs.Str.{IsAscii}
use Rattle.std.specs.Prelude.{IsUtf8, Option, Some, None}
use Rattle.std.specs.Fmt.{digits}
use Rattle.wasmprinter_spec.specs.Call.{Call, Text, Newline, Line, Start, Claim, Style, Literal, Name, Keyword, TypeName, Comment, Reset, call_text, text_of, atoms}
use Rattle.wasmprinter_spec.specs.Colored.{colored_bytes}
use Rattle.wasmprinter_spec.specs.Meaning.{Run}
use Rattle.wasmprinter_spec.specs.Layout.Folded.{text_in_color}
use Rattle.wasmprinter_spec.proofs.Texts.{alike_texts, alike_colored}
use Rattle.wasmprinter_print.specs.MadeCalls.{MadeCalls, Through}
use Rattle.wasmprinter_print.specs.Effects.{State, state, Effect, EffectEnds, HasEffect}
use Rattle.wasmprinter_print.specs.EffectLaws.{effect_end}
use Rattle.wasmprinter_print.specs.declared.halt.Halt.{Halt}
use Rattle.wasmprinter_print.specs.declared.halt.Halt.TheVariants.{Printer, Memory, Refused}
use Rattle.wasmprinter_spec.specs.Options.{defaults}
use Rattle.wasmprinter_fold.specs.declared.node_text.line_comment_scan.Semicolons.{Semicolons}
use Rattle.wasmprinter_fold.specs.Buffers.{View, see, see_all, with_text, with_sequences, view_after, IsTextual, texts_meaning, GrowsText}

-- ---- The text of lists of calls

-- Calls that differ only in how text is cut have the same text, with and without escape sequences.
pub colored_alike : (color : Bool) (k l : List Call) → atoms k ≡ atoms l → text_in_color color k ≡ text_in_color color l
colored_alike true k l e = alike_colored k l e
colored_alike false k l e = alike_texts k l e

-- ---- One call

-- The bytes that one call adds.
abbrev written : Bool → Call → List ℕ
written true c = colored_bytes c
written false c = call_text c

colored_first : (color : Bool) (c : Call) (cs : List Call) → text_in_color color (c ∷ cs) ≡ written color c ++ text_in_color color cs
colored_first true c cs = refl
colored_first false c cs = refl

colored_none : (color : Bool) → text_in_color color [] ≡ []
colored_none true = refl
colored_none false = refl

text_written : (color : Bool) (s : List ℕ) → written color (Text s) ≡ s
text_written true s = refl
text_written false s = refl

feed_written : (color : Bool) → written color Newline ≡ 10 ∷ []
feed_written true = refl
feed_written false = refl

line_written : (color : Bool) (place : Option ℕ) → written color (Line place) ≡ []
line_written true place = refl
line_written false place = refl

claim_written : (color : Bool) (name : List ℕ) (place : ℕ) (bytes : List ℕ) (answer : Bool) → written color (Claim name place bytes answer) ≡ []
claim_written true name place bytes answer = refl
claim_written false name place bytes answer = refl

start_bytes : (color : Bool) (v : View) (style : Style) → (with_sequences color v (colored_bytes (Start style))).bytes ≡ v.bytes ++ written color (Start style)
start_bytes true v style = refl
start_bytes false v style = sym (append-nil v.bytes)

start_colors : (color : Bool) (v : View) (s : List ℕ) → (with_sequences color v s).color ≡ v.color
start_colors true v s = refl
start_colors false v s = refl

start_seen : (color : Bool) (v : View) (s : List ℕ) → (with_sequences color v s).seen ≡ v.seen
start_seen true v s = refl
start_seen false v s = refl

after_bytes : (v : View) (c : Call) → (view_after v c).bytes ≡ v.bytes ++ written v.color c
after_bytes v (Text s) = ap (λ l. v.bytes ++ l) (sym (text_written v.color s))
after_bytes v Newline = ap (λ l. v.bytes ++ l) (sym (feed_written v.color))
after_bytes v (Line place) = sym (append-nil v.bytes) ∙ ap (λ l. v.bytes ++ l) (sym (line_written v.color place))
after_bytes v (Start style) = start_bytes v.color v style
after_bytes v (Claim name place bytes answer) = sym (append-nil v.bytes) ∙ ap (λ l. v.bytes ++ l) (sym (claim_written v.color name place bytes answer))

after_colors : (v : View) (c : Call) → (view_after v c).color ≡ v.color
after_colors v (Text s) = refl
after_colors v Newline = refl
after_colors v (Line place) = refl
after_colors v (Start style) = start_colors v.color v (colored_bytes (Start style))
after_colors v (Claim name place bytes answer) = refl

after_seen : (v : View) (c : Call) → (view_after v c).seen ≡ see_all v.seen (call_text c)
after_seen v (Text s) = refl
after_seen v Newline = refl
after_seen v (Line place) = refl
after_seen v (Start style) = start_seen v.color v (colored_bytes (Start style))
after_seen v (Claim name place bytes answer) = refl

see_all-append : (x y : List ℕ) (s : Semicolons) → see_all s (x ++ y) ≡ see_all (see_all s x) y
see_all-append [] y s = refl
see_all-append (b ∷ x) y s = see_all-append x y (see s b)

-- Whether each byte is ASCII.
abbrev all_low : List ℕ → Bool
all_low [] = true
all_low (b ∷ bs) = if ltb b 128 then all_low bs else false

low_first : (b : ℕ) (bs : List ℕ) (x : Bool) → ltb b 128 ≡ x → (if x then all_low bs else false) ≡ true → (b < 128) × (all_low bs ≡ true)
low_first b bs true e h = (ltb-true b 128 e, h)
low_first b bs false e h = absurd (true≢false (sym h))

low_ascii : (bs : List ℕ) → all_low bs ≡ true → IsAscii bs
low_ascii [] h = IsAscii-nil
low_ascii (b ∷ bs) h = let both = low_first b bs (ltb b 128) refl h in IsAscii-cons b bs both.0 (low_ascii bs both.1)

low_text : (bs : List ℕ) → all_low bs ≡ true → IsUtf8 bs
low_text bs h = IsUtf8-from_ascii bs (low_ascii bs h)

style_text : (style : Style) → IsUtf8 (colored_bytes (Start style))
unfolding digits
style_text Literal = low_text (colored_bytes (Start Literal)) refl
style_text Name = low_text (colored_bytes (Start Name)) refl
style_text Keyword = low_text (colored_bytes (Start Keyword)) refl
style_text TypeName = low_text (colored_bytes (Start TypeName)) refl
style_text Comment = low_text (colored_bytes (Start Comment)) refl
style_text Reset = low_text (colored_bytes (Start Reset)) refl

feed_text : IsUtf8 (10 ∷ [])
feed_text = low_text (10 ∷ []) refl

written_text : (color : Bool) (c : Call) → IsTextual c → IsUtf8 (written color c)
written_text true (Text s) h = h
written_text true Newline h = feed_text
written_text true (Line place) h = IsUtf8-nil
written_text true (Start style) h = style_text style
written_text true (Claim name place bytes answer) h = IsUtf8-nil
written_text false (Text s) h = h
written_text false Newline h = feed_text
written_text false (Line place) h = IsUtf8-nil
written_text false (Start style) h = IsUtf8-nil
written_text false (Claim name place bytes answer) h = IsUtf8-nil

-- ---- Several calls

-- The effect of calls on a buffer.
pub record Adds (old : View) (calls : List Call) (new : View) : Type 0 where
  pub bytes : new.bytes ≡ old.bytes ++ text_in_color old.color calls
  pub color : new.color ≡ old.color
  pub seen : new.seen ≡ see_all old.seen (text_of calls)
  pub is_text : IsUtf8 (text_in_color old.color calls)

adds_none : (s : View) → Adds s [] s
adds_none s =
    let none = colored_none s.color in
    record { bytes = sym (append-nil s.bytes) ∙ ap (λ l. s.bytes ++ l) (sym none); color = refl; seen = refl; is_text = subst IsUtf8 (sym none) IsUtf8-nil }

adds_first : (s t : View) (c : Call) (cs : List Call) → IsTextual c → Adds (view_after s c) cs t → Adds s (c ∷ cs) t
adds_first s t c cs is h =
    let same : (view_after s c).color ≡ s.color = after_colors s c in
    let rest : text_in_color (view_after s c).color cs ≡ text_in_color s.color cs = ap (λ b. text_in_color b cs) same in
    record {
      bytes =
          h.bytes ∙ ap₂ (λ x y. x ++ y) (after_bytes s c) rest ∙ append_assoc s.bytes (written s.color c) (text_in_color s.color cs)
          ∙ ap (λ l. s.bytes ++ l) (sym (colored_first s.color c cs));
      color = h.color ∙ same;
      seen = h.seen ∙ ap (λ x. see_all x (text_of cs)) (after_seen s c) ∙ sym (see_all-append (call_text c) (text_of cs) s.seen);
      is_text =
          subst IsUtf8 (sym (colored_first s.color c cs))
          (IsUtf8-append (written s.color c) (text_in_color s.color cs) (written_text s.color c is) (subst IsUtf8 rest h.is_text));
    }

run_adds : (s : View) (calls : List Call) (t : View) → Run texts_meaning s calls t → Adds s calls t
run_adds s [] t r = subst (λ (u : View). Adds s [] u) r (adds_none s)
run_adds s (c ∷ cs) t r = adds_first s t c cs r.1.step.1 (run_adds (view_after s c) cs t (subst (λ (u : View). Run texts_meaning u cs t) r.1.step.0 r.2))

-- The calls of a layout that were all made add their text.
pub made_adds : (s t : View) (layout : List Call) → MadeCalls texts_meaning s t Through layout → Adds s layout t
made_adds s t layout m =
    let a = run_adds s m.made.calls t m.made.run in
    let same = colored_alike s.color m.made.calls layout m.made.alike in
    record {
      bytes = a.bytes ∙ ap (λ l. s.bytes ++ l) same;
      color = a.color;
      seen = a.seen ∙ ap (see_all s.seen) (alike_texts m.made.calls layout m.made.alike);
      is_text = subst IsUtf8 same a.is_text;
    }

-- A piece of text that was written adds that text.
pub text_adds : (s t : View) (text : List ℕ) → IsUtf8 text → t ≡ with_text s text → Adds s (Text text ∷ []) t
text_adds s t text u e = run_adds s (Text text ∷ []) t (t, record { step = (e, u); kept = refl }, refl)

-- ---- What is kept, whether or not the calls succeed

-- The buffer only gained UTF-8, and the choice of escape sequences is unchanged.
pub record Keeps (old new : View) : Type 0 where
  pub color : new.color ≡ old.color
  pub grows : GrowsText old.bytes new.bytes

run_keeps : (s : View) (calls : List Call) (t : View) → Run texts_meaning s calls t → Keeps s t
run_keeps s calls t r =
    let a = run_adds s calls t r in
    record { color = a.color; grows = record { more = text_in_color s.color calls; parts = a.bytes; is_text = a.is_text } }

ended_keeps : (folds : Bool) (a : State View) (t : View) (halt : Option Halt) (begun : Bool) (e : Effect) →
    EffectEnds texts_meaning folds a t halt begun e → Keeps a.printer t
ended_keeps folds a t None begun e v = run_keeps a.printer v.0.calls t v.0.run
ended_keeps folds a t (Some (Printer x)) begun e v =
    subst (λ (u : View). Keeps a.printer u) (sym v.failed.left.1) (run_keeps a.printer v.calls v.before v.run)
ended_keeps folds a t (Some Memory) begun e v = run_keeps a.printer v.0.calls t v.0.run
ended_keeps folds a t (Some (Refused id)) begun e v = run_keeps a.printer v.0.calls t v.0.run

-- Calls that started without an error kept the texts, whether or not they succeeded.
module _ {p q : View} {y x : Option Halt} {b c : Bool} {e : Effect} (old : View) (h : p ≡ old) (f : y ≡ None) (v : HasEffect texts_meaning defaults (state p y b) (state q x c) e) where
  kept : Keeps old q
  kept = subst (λ (u : View). Keeps u q) h (ended_keeps defaults.folds (state p y b) q x c e (effect_end texts_meaning defaults f v))

  pub made_color : (color : Bool) → color ≡ q.color → color ≡ old.color
  made_color color g = g ∙ kept.color

  pub made_grows : (bytes : List ℕ) → bytes ≡ q.bytes → GrowsText old.bytes bytes
  made_grows bytes g = subst (λ (l : List ℕ). GrowsText old.bytes l) (sym g) kept.grows
