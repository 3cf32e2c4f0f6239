-- Positions that reading has reached from an earlier position.
use Rattle.std.proofs.Common.{◌≡◌, ℕ, ◌+◌, inl, inr, List, [], ◌∷◌, ◌++◌, length, Some, refl, sym, ap, subst, ◌∙◌, arith, append_assoc, append-nil, length-append}
use Rattle.wasmprinter_spec.specs.Grammar.{Input, Grammar, Placed}
use Rattle.wasmprinter_spec.specs.Placed.{Custom}
use Rattle.wasmprinter_spec.specs.Sections.{Kind, CustomSection, holds, section}
use Rattle.wasmprinter_decoder.specs.Refusals.{HasManyLocals, HasEmptyInit, BeginsSection, BeginsItems, HasCustom, KeepsSome}

-- The position `at` is in the bytes of `start`, and its bytes are the last of these.
pub record IsLater (start at : Input) : Type 0 where
  pub text : List ℕ
  pub parts : start.bytes ≡ text ++ at.bytes
  pub begins : at.place ≡ start.place + length text

-- If nothing was read, the position is the same.
pub later_none : (at : Input) → IsLater at at
later_none at = record { text = []; parts = refl; begins = omega arith }

-- After a value is read, the position is later.
pub later_more : {A : Type 0} (g : Grammar A) (start at after : Input) (x : A) → g.parse at ≡ Some (x, after) → IsLater start at → IsLater start after
later_more g start at after x e l =
    let s = g.sound at (x, after) e in
    record {
      text = l.text ++ s.text;
      parts = l.parts ∙ ap (λ (bs : List ℕ). l.text ++ bs) s.parts ∙ sym (append_assoc l.text s.text after.bytes);
      begins = omega (arith, l.begins, s.ends, length-append l.text s.text);
    }

-- If a part of the bytes contains too many locals, so do the bytes.
pub many_in_part : (at part : Input) (t r : List ℕ) (place : ℕ) → at.bytes ≡ t ++ (part.bytes ++ r) → part.place ≡ at.place + length t → HasManyLocals part place → HasManyLocals at place
many_in_part at part t r place parts begins m = record {
  before = t ++ m.before;
  text = m.text;
  after = m.after ++ r;
  parts = parts ∙ ap (λ (bs : List ℕ). t ++ (bs ++ r)) m.parts
      ∙ ap (λ (bs : List ℕ). t ++ bs) (append_assoc m.before (m.text ++ m.after) r ∙ ap (λ (bs : List ℕ). m.before ++ bs) (append_assoc m.text m.after r))
      ∙ sym (append_assoc t m.before (m.text ++ (m.after ++ r)));
  starts = omega (arith, m.starts, begins, length-append t m.before);
  locals = m.locals;
  spelled = m.spelled;
  many = m.many;
}

-- The same for an empty initialiser.
pub empty_in_part : (at part : Input) (t r : List ℕ) (place : ℕ) → at.bytes ≡ t ++ (part.bytes ++ r) → part.place ≡ at.place + length t → HasEmptyInit part place → HasEmptyInit at place
empty_in_part at part t r place parts begins h = record {
  before = t ++ h.before;
  text = h.text;
  after = h.after ++ r;
  parts = parts ∙ ap (λ (bs : List ℕ). t ++ (bs ++ r)) h.parts
      ∙ ap (λ (bs : List ℕ). t ++ bs) (append_assoc h.before (h.text ++ h.after) r ∙ ap (λ (bs : List ℕ). h.before ++ bs) (append_assoc h.text h.after r))
      ∙ sym (append_assoc t h.before (h.text ++ (h.after ++ r)));
  starts = omega (arith, h.starts, begins, length-append t h.before);
  type = h.type;
  spelled = h.spelled;
}

-- If the bytes at a later position contain too many locals, so do the bytes at the earlier one.
pub many_later : (start at : Input) (place : ℕ) → IsLater start at → HasManyLocals at place → HasManyLocals start place
many_later start at place l m = many_in_part start at l.text [] place (l.parts ∙ ap (λ (bs : List ℕ). l.text ++ bs) (sym (append-nil at.bytes))) l.begins m

-- The same for an empty initialiser.
pub empty_later : (start at : Input) (place : ℕ) → IsLater start at → HasEmptyInit at place → HasEmptyInit start place
empty_later start at place l h = empty_in_part start at l.text [] place (l.parts ∙ ap (λ (bs : List ℕ). l.text ++ bs) (sym (append-nil at.bytes))) l.begins h

-- The same for the start of a section.
pub section_later : (start at : Input) (kind : Kind) (count : ℕ) → IsLater start at → BeginsSection at kind count → BeginsSection start kind count
section_later start at kind count l h = record {
  id = h.id;
  of_kind = h.of_kind;
  before = l.text ++ h.before;
  size_text = h.size_text;
  count_text = h.count_text;
  after = h.after;
  parts = l.parts ∙ ap (λ (bs : List ℕ). l.text ++ bs) h.parts ∙ sym (append_assoc l.text h.before (h.id ∷ (h.size_text ++ (h.count_text ++ h.after))));
  size = h.size;
  sized = h.sized;
  counted = h.counted;
}

-- The same for the start of a section with items.
pub items_later : (start at : Input) → IsLater start at → BeginsItems at → BeginsItems start
items_later start at l h = record { kind = h.kind; listed = h.listed; count = h.count; some = h.some; begins = section_later start at h.kind h.count l h.begins }

-- The same for a custom section.
pub custom_later : (start at : Input) → IsLater start at → HasCustom at → HasCustom start
custom_later start at l h = record {
  before = l.text ++ h.before;
  text = h.text;
  after = h.after;
  parts = l.parts ∙ ap (λ (bs : List ℕ). l.text ++ bs) h.parts ∙ sym (append_assoc l.text h.before (h.text ++ h.after));
  custom = h.custom;
  spelled = subst (λ (p : ℕ). section.spells p h.text (holds CustomSection h.custom)) (omega (arith, l.begins, length-append l.text h.before)) h.spelled;
}

-- The same for anything to keep.
pub kept_later : (start at : Input) → IsLater start at → KeepsSome at → KeepsSome start
kept_later start at l (inl items) = inl (items_later start at l items)
kept_later start at l (inr custom) = inr (custom_later start at l custom)

-- If a custom section was read, the bytes contain a custom section.
pub custom_read : (at after : Input) (c : Placed Custom) → section.parse at ≡ Some (holds CustomSection c, after) → HasCustom at
custom_read at after c e =
    let s = section.sound at (holds CustomSection c, after) e in
    record {
      before = [];
      text = s.text;
      after = after.bytes;
      parts = s.parts;
      custom = c;
      spelled = subst (λ (p : ℕ). section.spells p s.text (holds CustomSection c)) (omega arith) s.spelled;
    }
