-- The number of hints in items. Annotations after identifiers are not hints, and items that are written without
-- annotations have none.
use Rattle.std.proofs.Common.{◌≡◌, ℕ, suc, ◌+◌, Bool, true, false, cond, List, length, Option, Some, None, refl, sym, ap, ap₂, ◌∙◌, arith}
use Rattle.wasmprinter_spec.specs.Grammar.{Placed}
use Rattle.wasmprinter_spec.specs.Forest.{Forest, End, Word, Name, String, Reserved, Group, Note, onto, without_annotations}
use Rattle.wasmprinter_spec.specs.Labels.{Named}
use Rattle.wasmprinter_spec.specs.Code.{is_hint}
use Rattle.wasmprinter_spec.specs.Piece.{Piece}
use Rattle.wasmprinter_spec.specs.Customs.Hints.{Hint}
use Rattle.wasmprinter_spec.specs.Text.Hints.{hint_count}
use Rattle.wasmprinter_laws.proofs.Tokens.Noted.{Noted, no_items, a_word, a_name, a_noted_name, a_string, a_reserved, a_group, a_note}
use Rattle.wasmprinter_laws.proofs.Tokens.Pieces.{Edge}
use Rattle.wasmprinter_laws.proofs.Tokens.Writes.{WritesNoted}
use Rattle.wasmprinter_laws.proofs.Identifiers.{id_items}
use Rattle.wasmprinter_laws.proofs.Operators.Forms.{hint_items}
use Rattle.wasmprinter_laws.proofs.Customs.Notes.{AreNotes}
use Rattle.wasmprinter_laws.proofs.Hints.Bodies.{own_hint}

-- Annotations after identifiers are not hints.
pub noted_count : {z g : Forest} → Noted z g → hint_count z ≡ hint_count g
noted_count no_items = refl
noted_count (a_word n) = noted_count n
noted_count (a_name n) = noted_count n
noted_count (a_noted_name n) = noted_count n
noted_count (a_string n) = noted_count n
noted_count (a_reserved n) = noted_count n
noted_count (a_group m n) = ap₂ (λ a b. a + b) (noted_count m) (noted_count n)
noted_count (a_note {id} m n) = ap (λ c. cond (is_hint id) (suc c) c) (noted_count n)

pub hint_count-onto : (f g : Forest) → hint_count (onto f g) ≡ hint_count f + hint_count g
hint_count-onto End g = omega arith
hint_count-onto (Word s f) g = hint_count-onto f g
hint_count-onto (Name s f) g = hint_count-onto f g
hint_count-onto (String s f) g = hint_count-onto f g
hint_count-onto (Reserved f) g = hint_count-onto f g
hint_count-onto (Group h f) g = omega (arith, hint_count-onto f g)
hint_count-onto (Note id h f) g = by (is_hint id) (hint_count-onto f g)
  where
    by : (t : Bool) → hint_count (onto f g) ≡ hint_count f + hint_count g →
        cond t (suc (hint_count (onto f g))) (hint_count (onto f g)) ≡ cond t (suc (hint_count f)) (hint_count f) + hint_count g
    by true e = omega (arith, e)
    by false e = e

-- If joined items have no hints, neither part has any.
pub front_count : (a f : Forest) → hint_count (onto a f) ≡ 0 → (hint_count a ≡ 0) × (hint_count f ≡ 0)
front_count a f e = (omega (arith, e, hint_count-onto a f), omega (arith, e, hint_count-onto a f))

-- Items without hints, before other items, do not change the number of hints.
pub after_count : (a f : Forest) → hint_count a ≡ 0 → hint_count (onto a f) ≡ hint_count f
after_count a f e = omega (arith, e, hint_count-onto a f)

-- ---- items without hints

bare_count : (f : Forest) → hint_count (without_annotations f) ≡ 0
bare_count End = refl
bare_count (Word s f) = bare_count f
bare_count (Name s f) = bare_count f
bare_count (String s f) = bare_count f
bare_count (Reserved f) = bare_count f
bare_count (Group g f) = ap₂ (λ a b. a + b) (bare_count g) (bare_count f)
bare_count (Note id g f) = bare_count f

-- The items that pieces write, without annotations, have no hints.
pub written_count : {a b : Edge} {ps : List Piece} {f k : Forest} → WritesNoted a ps b f k → hint_count f ≡ 0
written_count {k = k} w = ap hint_count (sym w.without) ∙ bare_count k

pub id_count : (o : Option Named) → hint_count (id_items o) ≡ 0
id_count None = refl
id_count (Some d) = refl

-- The annotations of custom sections are not hints.
pub notes_count : (a : Forest) → AreNotes a → hint_count a ≡ 0
notes_count End h = refl
notes_count (Note id f a) h = rw h.0 (notes_count a h.1)
notes_count _ h = absurd h

-- ---- the hint of an operator

abbrev pub one_if_any : Option (Placed Hint) → ℕ
one_if_any None = 0
one_if_any (Some h) = 1

pub hint_count-hint_items : (h : Option (Placed Hint)) (f : Forest) → hint_count (hint_items h f) ≡ one_if_any h + hint_count f
hint_count-hint_items None f = omega arith
hint_count-hint_items (Some h) f = omega arith

pub length-own_hint : (f k : ℕ) (h : Option (Placed Hint)) → length (own_hint f k h) ≡ one_if_any h
length-own_hint f k None = refl
length-own_hint f k (Some h) = refl
