-- Heads of nodes: their texts in a buffer, also after the buffer has grown, and whether these contain two
-- consecutive semicolons.
use Rattle.std.proofs.Common.{◌≡◌, ℕ, ◌-◌, ◌==◌, ◌&&◌, ◌||◌, Bool, true, false, List, [], ◌∷◌, ◌++◌, length, take, drop, refl, sym, ◌∙◌, ap, ap₂, subst, append_assoc, arith, length-append}
use Rattle.std.proofs.lemmas.List.{take_at, drop_at, append-nil}
use Rattle.std.proofs.lemmas.Str.{IsCharBoundary-at_seam, IsUtf8-append, IsUtf8-nil}
use Rattle.std.proofs.lemmas.Bool.{eqb-true}
use Rattle.std.specs.Prelude.{IsUtf8, Option}
use Rattle.std.specs.Str.{IsCharBoundary}
use Rattle.wasmprinter_spec.specs.Call.{Call, text_of}
use Rattle.wasmprinter_spec.specs.Layout.Folded.{text_in_color, has_line_comment}
use Rattle.wasmprinter_spec.specs.Folding.Tree.{NodesOf, Nil, Snoc}
use Rattle.wasmprinter_fold.specs.declared.nodes.NodeText.{NodeText}
use Rattle.wasmprinter_fold.specs.Mapping.{map_nodes}
use Rattle.wasmprinter_fold.specs.declared.node_text.line_comment_scan.Semicolons.{Semicolons}
use Rattle.wasmprinter_fold.specs.Shown.{ShownNode, shown_of_calls, shown_of_head, IsIn, AreIn}
use Rattle.wasmprinter_fold.specs.Buffers.{View, no_semicolons, see, see_all, with_text_begun, GrowsText}
use Rattle.wasmprinter_fold.proofs.TextLaws.{Adds}

-- ---- The position of a text

module _ (buffer : List ℕ) (l : NodeText) (h : IsIn buffer l) where
  pub start_boundary : IsCharBoundary buffer l.start
  start_boundary =
      subst (IsCharBoundary buffer) h.starts
      (IsCharBoundary-at_seam buffer h.before (h.text ++ h.after) h.parts (IsUtf8-append h.text h.after h.is_text h.is_rest))

  pub stop_boundary : IsCharBoundary buffer l.stop
  stop_boundary =
      let at : length (h.before ++ h.text) ≡ l.stop = omega (arith, length-append h.before h.text, h.starts, h.stops) in
      subst (IsCharBoundary buffer) at
      (IsCharBoundary-at_seam buffer (h.before ++ h.text) h.after (h.parts ∙ sym (append_assoc h.before h.text h.after)) h.is_rest)

  -- The bytes at the position of a head are its text.
  pub text_there : take (l.stop - l.start) (drop l.start buffer) ≡ h.text
  text_there =
      let size : length h.text ≡ l.stop - l.start = omega (arith, h.stops) in
      ap (λ (b : List ℕ). take (l.stop - l.start) (drop l.start b)) h.parts
      ∙ (ap (take (l.stop - l.start)) (drop_at h.before (h.text ++ h.after) l.start h.starts)
      ∙ take_at h.text h.after (l.stop - l.start) size)

  longer_parts : (more new : List ℕ) → new ≡ buffer ++ more → new ≡ h.before ++ (h.text ++ (h.after ++ more))
  longer_parts more new e =
      e
      ∙ (ap (λ (b : List ℕ). b ++ more) h.parts
      ∙ (append_assoc h.before (h.text ++ h.after) more
      ∙ ap (λ (b : List ℕ). h.before ++ b) (append_assoc h.text h.after more)))

  -- A text in a buffer is also in a longer buffer that begins with that buffer.
  pub in_longer : (more new : List ℕ) → IsUtf8 more → new ≡ buffer ++ more → IsIn new l
  in_longer more new u e =
      record {
        before = h.before;
        text = h.text;
        after = h.after ++ more;
        parts = longer_parts more new e;
        starts = h.starts;
        stops = h.stops;
        is_text = h.is_text;
        is_rest = IsUtf8-append h.after more h.is_rest u;
      }

  -- The bytes at its position in the longer buffer are the text.
  pub text_there_longer : (more new : List ℕ) → new ≡ buffer ++ more → take (l.stop - l.start) (drop l.start new) ≡ h.text
  text_there_longer more new e =
      let size : length h.text ≡ l.stop - l.start = omega (arith, h.stops) in
      ap (λ (b : List ℕ). take (l.stop - l.start) (drop l.start b)) (longer_parts more new e)
      ∙ (ap (take (l.stop - l.start)) (drop_at h.before (h.text ++ (h.after ++ more)) l.start h.starts)
      ∙ take_at h.text (h.after ++ more) (l.stop - l.start) size)

abbrev shown_by : NodeText → List ℕ → ShownNode
shown_by l text = record { place = l.place; hint = l.hint; text = text; comment = l.comment }

-- A text keeps its position when the buffer grows.
pub in_grown : (old new : List ℕ) (l : NodeText) → GrowsText old new → IsIn old l → IsIn new l
in_grown old new l g h = in_longer old l h g.more new g.is_text g.parts

-- The printed text of a node stays the same when the buffer grows.
pub shown_grown : (old new : List ℕ) (l : NodeText) → GrowsText old new → IsIn old l → shown_of_head new l ≡ shown_of_head old l
shown_grown old new l g h =
    ap (shown_by l) (text_there_longer old l h g.more new g.parts ∙ sym (text_there old l h))

-- The texts of all heads keep their positions when the buffer grows.
pub are_grown : (old new : List ℕ) (f : NodesOf NodeText) → GrowsText old new → AreIn old f → AreIn new f
are_grown old new Nil g h = tt
are_grown old new (Snoc before l results held) g h =
    (are_grown old new before g h.0, in_grown old new l g h.1, are_grown old new held g h.2)

pub all_shown_grown : (old new : List ℕ) (f : NodesOf NodeText) → GrowsText old new → AreIn old f → map_nodes (shown_of_head new) f ≡ map_nodes (shown_of_head old) f
all_shown_grown old new Nil g h = refl
all_shown_grown old new (Snoc before l results held) g h =
    rw (all_shown_grown old new before g h.0, all_shown_grown old new held g h.2, shown_grown old new l g h.1) refl

-- ---- Semicolons

abbrev comment_after : Bool → List ℕ → Bool
comment_after true bs = has_line_comment (59 ∷ bs)
comment_after false bs = has_line_comment bs

or_none : (d : Bool) → d ≡ (d || false)
or_none true = refl
or_none false = refl

after_none : (l : Bool) → comment_after l [] ≡ false
after_none true = refl
after_none false = refl

no_semicolon : (b : ℕ) (bs : List ℕ) → (b == 59) ≡ false → has_line_comment (b ∷ bs) ≡ has_line_comment bs
no_semicolon b [] e = refl
no_semicolon b (c ∷ bs) e = rw e refl

by_first : (b : ℕ) (bs : List ℕ) (l : Bool) → (b == 59) ≡ l → has_line_comment (b ∷ bs) ≡ comment_after l bs
by_first b bs true e = ap (λ c. has_line_comment (c ∷ bs)) (eqb-true b 59 e)
by_first b bs false e = no_semicolon b bs e

-- Reading the first byte into the state does not change whether two consecutive semicolons are found.
after_first : (d l s : Bool) (b : ℕ) (bs : List ℕ) → (b == 59) ≡ s → ((d || (l && s)) || comment_after s bs) ≡ (d || comment_after l (b ∷ bs))
after_first true l s b bs e = refl
after_first false false s b bs e = sym (by_first b bs s e)
after_first false true s b bs e = rw e (ap (λ x. s || x) (sym (by_first b bs s e)))

seen_after : (s : Semicolons) (bs : List ℕ) → (see_all s bs).double ≡ (s.double || comment_after s.last bs)
seen_after s [] = or_none s.double ∙ ap (λ x. s.double || x) (sym (after_none s.last))
seen_after s (b ∷ bs) = seen_after (see s b) bs ∙ after_first s.double s.last (b == 59) b bs refl

-- The state after all bytes of a text says whether the text contains two consecutive semicolons.
pub seen_comment : (bs : List ℕ) → (see_all no_semicolons bs).double ≡ has_line_comment bs
seen_comment bs = seen_after no_semicolons bs

-- ---- A new text

-- The head of the last text.
abbrev pub head_of : View → ℕ → ℕ → Option Bool → NodeText
head_of new place start hint = record { place = place; hint = hint; start = start; stop = length new.bytes; comment = new.seen.double }

module _ (old middle new : View) (place start : ℕ) (hint : Option Bool) (layout : List Call) (b : middle ≡ with_text_begun old) (s : start ≡ length old.bytes) (added : Adds middle layout new) where
  abbrev a : Adds (with_text_begun old) layout new
  a = subst (λ (u : View). Adds u layout new) b added

  last_in : IsIn new.bytes (head_of new place start hint)
  last_in =
      record {
        before = old.bytes;
        text = text_in_color old.color layout;
        after = [];
        parts = a.bytes ∙ ap (λ (l : List ℕ). old.bytes ++ l) (sym (append-nil (text_in_color old.color layout)));
        starts = sym s;
        stops = omega (arith, s, ap length a.bytes, length-append old.bytes (text_in_color old.color layout));
        is_text = a.is_text;
        is_rest = IsUtf8-nil;
      }

  -- The text of the new head is in the buffer.
  pub entered_in : (l : NodeText) → l ≡ head_of new place start hint → IsIn new.bytes l
  entered_in l e = subst (IsIn new.bytes) (sym e) last_in

  last_there : take (length new.bytes - start) (drop start new.bytes) ≡ text_in_color old.color layout
  last_there =
      let size : length (text_in_color old.color layout) ≡ length new.bytes - start = omega (arith, s, ap length a.bytes, length-append old.bytes (text_in_color old.color layout)) in
      ap (λ (b : List ℕ). take (length new.bytes - start) (drop start b)) a.bytes
      ∙ (ap (take (length new.bytes - start)) (drop_at old.bytes (text_in_color old.color layout) start (sym s))
      ∙ (ap (take (length new.bytes - start)) (sym (append-nil (text_in_color old.color layout)))
      ∙ take_at (text_in_color old.color layout) [] (length new.bytes - start) size))

  -- The text of the new head is the one that was written.
  pub entered_shown : (l : NodeText) → l ≡ head_of new place start hint → shown_of_head new.bytes l ≡ shown_of_calls place hint old.color layout
  entered_shown l e =
      ap (shown_of_head new.bytes) e
      ∙ ap₂ (λ (text : List ℕ) (comment : Bool). record { place = place; hint = hint; text = text; comment = comment })
      last_there
      (ap (λ (x : Semicolons). x.double) a.seen ∙ seen_comment (text_of layout))
