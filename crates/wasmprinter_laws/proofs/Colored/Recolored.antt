-- Pieces with the escape sequences of colors in the texts of some nodes, and the same pieces without the sequences.
use Rattle.std.proofs.Common.{◌≡◌, ℕ, ◌+◌, List, [], ◌∷◌, ◌++◌, Bool, true, false, Option, None, cond, codes, refl, sym, ap, ap₂, subst, ◌∙◌, append-nil}
use Rattle.wasmprinter_spec.specs.Call.{Call, Text, text_of}
use Rattle.wasmprinter_spec.specs.Colored.{colored_text}
use Rattle.wasmprinter_spec.specs.Color.{uncolor}
use Rattle.wasmprinter_spec.specs.Plain.{IsPlainText}
use Rattle.wasmprinter_spec.specs.Options.{Options}
use Rattle.wasmprinter_spec.specs.Piece.{Piece, OpenPlain, calls, all_calls}
use Rattle.wasmprinter_spec.specs.Layout.Groups.{breaks, has_break, close, group_space, line_group_space, numbered_pieces}
use Rattle.wasmprinter_spec.specs.Layout.Folded.{text_in_color}
use Rattle.wasmprinter_spec.proofs.Texts.{text_of-append, colored_text-append}
use Rattle.wasmprinter_laws.proofs.Colored.Uncolored.{colors_keep_text}

-- The two lists are the same except for the text after the opening parenthesis of some nodes. The second list has
-- the text of some calls there, and the first has their text with the escape sequences of their styles.
pub data Recolored : List Piece → List Piece → Type 0 where
  none : Recolored [] []
  same : {p : Piece} {ps qs : List Piece} → Recolored ps qs → Recolored (p ∷ ps) (p ∷ qs)
  node : (cs : List Call) {ps qs : List Piece} → Recolored ps qs → Recolored (OpenPlain (colored_text cs) ∷ ps) (OpenPlain (text_of cs) ∷ qs)

-- ---- what preserves `Recolored`

pub same_all : (ps : List Piece) → Recolored ps ps
same_all [] = none
same_all (p ∷ ps) = same (same_all ps)

pub both : {ps qs rs ts : List Piece} → Recolored ps qs → Recolored rs ts → Recolored (ps ++ rs) (qs ++ ts)
both none k = k
both (same h) k = same (both h k)
both (node cs h) k = node cs (both h k)

-- `Recolored` is preserved if the same pieces are put before both lists.
pub after : (front : List Piece) {ps qs : List Piece} → Recolored ps qs → Recolored (front ++ ps) (front ++ qs)
after front h = both (same_all front) h

-- Both lists contain a line break, or neither does.
pub same_breaks : {ps qs : List Piece} → Recolored ps qs → has_break ps ≡ has_break qs
same_breaks none = refl
same_breaks (same {p = p} h) = ap (λ (b : Bool). cond (breaks p) true b) (same_breaks h)
same_breaks (node cs h) = same_breaks h

-- So both lists close their group in the same way.
pub closed : {ps qs : List Piece} (place : Option ℕ) (nesting : ℕ) (f : Bool → Bool) → Recolored ps qs →
    Recolored (ps ++ close place nesting (f (has_break ps))) (qs ++ close place nesting (f (has_break qs)))
closed {ps} {qs} place nesting f h =
    both h (subst (λ (b : Bool). Recolored (close place nesting (f (has_break ps))) (close place nesting (f b))) (same_breaks h) (same_all (close place nesting (f (has_break ps)))))

pub in_group_space : {ps qs : List Piece} (nesting : ℕ) (w : List ℕ) → Recolored ps qs → Recolored (group_space nesting w ps) (group_space nesting w qs)
unfolding group_space
in_group_space nesting w h = same (closed None nesting (λ b. b) h)

-- `Recolored` is preserved by a group on one line.
pub in_line_group_space : {ps qs : List Piece} (w : List ℕ) → Recolored ps qs → Recolored (line_group_space w ps) (line_group_space w qs)
unfolding line_group_space
in_line_group_space w h = same (both h (same none))

pub numbered_so : {A : Type 0} (f g : ℕ → A → List Piece) → ((i : ℕ) (x : A) → Recolored (f i x) (g i x)) → (i : ℕ) (xs : List A) → Recolored (numbered_pieces f i xs) (numbered_pieces g i xs)
unfolding numbered_pieces
numbered_so f g each i [] = none
numbered_so f g each i (x ∷ xs) = both (each i x) (numbered_so f g each (i + 1) xs)

-- ---- the texts of both lists

text_in_color-append : (b : Bool) (cs ds : List Call) → text_in_color b (cs ++ ds) ≡ text_in_color b cs ++ text_in_color b ds
text_in_color-append true cs ds = colored_text-append cs ds
text_in_color-append false cs ds = text_of-append cs ds

text_in_color-text : (b : Bool) (s : List ℕ) (cs : List Call) → text_in_color b (Text s ∷ cs) ≡ s ++ text_in_color b cs
text_in_color-text true s cs = refl
text_in_color-text false s cs = refl

-- The calls with their styles, or one call with their text.
abbrev own_calls : Bool → List Call → List Call
own_calls true cs = cs
own_calls false cs = Text (text_of cs) ∷ []

colored-own : (b : Bool) (cs : List Call) → colored_text (own_calls b cs) ≡ text_in_color b cs
colored-own true cs = refl
colored-own false cs = append-nil (text_of cs)

plain-own : (b : Bool) (cs : List Call) → text_of (own_calls b cs) ≡ text_of cs
plain-own true cs = refl
plain-own false cs = append-nil (text_of cs)

-- One list of calls has the texts of both lists of pieces. With the escape sequences of its styles, its text is
-- that of the first list, as a color printer (if `b`) or another printer writes it. Without the sequences, its
-- text is that of the second list.
record Colors (b : Bool) (o : Options) (ps qs : List Piece) : Type 0 where
  calls : List Call
  colored : colored_text calls ≡ text_in_color b (all_calls o ps)
  plain : text_of calls ≡ text_of (all_calls o qs)

colors_then : (b : Bool) (o : Options) (p : Piece) {ps qs : List Piece} → Colors b o ps qs → Colors b o (p ∷ ps) (p ∷ qs)
colors_then b o p {ps} {qs} h = record {
  calls = own_calls b (calls o p) ++ h.calls;
  colored =
      colored_text-append (own_calls b (calls o p)) h.calls
      ∙ ap₂ (λ (s t : List ℕ). s ++ t) (colored-own b (calls o p)) h.colored
      ∙ sym (text_in_color-append b (calls o p) (all_calls o ps));
  plain =
      text_of-append (own_calls b (calls o p)) h.calls
      ∙ ap₂ (λ (s t : List ℕ). s ++ t) (plain-own b (calls o p)) h.plain
      ∙ sym (text_of-append (calls o p) (all_calls o qs));
}

colors_node : (b : Bool) (o : Options) (cs : List Call) {ps qs : List Piece} → Colors b o ps qs →
    Colors b o (OpenPlain (colored_text cs) ∷ ps) (OpenPlain (text_of cs) ∷ qs)
colors_node b o cs {ps} {qs} h = record {
  calls = Text (codes "(") ∷ (cs ++ h.calls);
  colored =
      ap (λ (t : List ℕ). codes "(" ++ t) (colored_text-append cs h.calls ∙ ap (λ (t : List ℕ). colored_text cs ++ t) h.colored)
      ∙ sym (text_in_color-text b (codes "(" ++ colored_text cs) (all_calls o ps));
  plain = ap (λ (t : List ℕ). codes "(" ++ t) (text_of-append cs h.calls ∙ ap (λ (t : List ℕ). text_of cs ++ t) h.plain);
}

colors_of : (b : Bool) (o : Options) {ps qs : List Piece} → Recolored ps qs → Colors b o ps qs
colors_of b o none = record { calls = []; colored = empty b; plain = refl }
  where
    empty : (b : Bool) → [] ≡ text_in_color b []
    empty true = refl
    empty false = refl
colors_of b o (same {p = p} h) = colors_then b o p (colors_of b o h)
colors_of b o (node cs h) = colors_node b o cs (colors_of b o h)

-- If the second text is plain, it is what remains of the first after the escape sequences are deleted.
pub uncolored : (b : Bool) (o : Options) (ps qs : List Piece) → Recolored ps qs → IsPlainText (text_of (all_calls o qs)) →
    uncolor (text_in_color b (all_calls o ps)) ≡ text_of (all_calls o qs)
uncolored b o ps qs h plain =
    let c : Colors b o ps qs = colors_of b o h in
    ap uncolor (sym c.colored) ∙ colors_keep_text c.calls (subst IsPlainText (sym c.plain) plain) ∙ c.plain
