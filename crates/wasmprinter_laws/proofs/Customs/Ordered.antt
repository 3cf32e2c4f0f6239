-- Custom sections are in the order of their positions, which are the sections before them.
use Rattle.std.proofs.Common.{◌≡◌, ℕ, ◌≤◌, Bool, true, false, cond, List, [], ◌∷◌, Option, Some, None, refl, sym, ap, ◌∙◌, inl, inr, arith}
use Rattle.std.proofs.lemmas.Bool.{and_parts, ltb-true}
use Rattle.wasmprinter_spec.specs.Repeated.{some_or}
use Rattle.wasmprinter_spec.specs.Kinds.{Kind, CustomSection, TypeSection, ImportSection, FunctionSection, TableSection, MemorySection, TagSection, GlobalSection, ExportSection, StartSection, ElementSection, DataCountSection, CodeSection, DataSection}
use Rattle.wasmprinter_spec.specs.Placed.{CustomEntry}
use Rattle.wasmprinter_spec.specs.Sections.{Section, holds, section_kind, content_of, rank, follows, rank_after, are_above, has_fields, kind_after, customs_after}
use Rattle.wasmprinter_spec.proofs.Ordered.{picks}

-- The rank of a position
abbrev pub after_rank : Option Kind → ℕ
after_rank None = 0
after_rank (Some kind) = some_or (rank kind) 0 (λ r. r)

-- Reports whether a custom section can have this position, which is never a custom section or a data count section.
abbrev pub is_custom_position : Option Kind → Bool
is_custom_position None = true
is_custom_position (Some CustomSection) = false
is_custom_position (Some DataCountSection) = false
is_custom_position (Some kind) = true

-- The ranks of the positions do not decrease, and none is below `low`.
abbrev pub AreInOrder : ℕ → List CustomEntry → Type 0
AreInOrder low [] = Unit {0}
AreInOrder low (c ∷ cs) = (low ≤ after_rank c.after) × (is_custom_position c.after ≡ true) × AreInOrder (after_rank c.after) cs

earlier : (a b : ℕ) (cs : List CustomEntry) → a ≤ b → AreInOrder b cs → AreInOrder a cs
earlier a b [] le h = tt
earlier a b (c ∷ cs) le (from, any, others) = (omega (arith, from), any, others)

-- The last position after a section, compared with the last position before it
record Moves (low : ℕ) (last : Option Kind) (s : Section) : Type 0 where
  any : is_custom_position (kind_after last s) ≡ true
  from : after_rank last ≤ after_rank (kind_after last s)
  to : after_rank (kind_after last s) ≤ rank_after low (rank (section_kind s))

module _ (low : ℕ) (last : Option Kind) (any : is_custom_position last ≡ true) (le : after_rank last ≤ low) where
  -- A section of a kind with a rank that may be a position
  moved : (kind : Kind) (r : ℕ) → rank kind ≡ Some r → is_custom_position (Some kind) ≡ true → follows low (rank kind) ≡ true → (t : Bool) →
      (is_custom_position (cond t (Some kind) last) ≡ true) × (after_rank last ≤ after_rank (cond t (Some kind) last)) × (after_rank (cond t (Some kind) last) ≤ rank_after low (rank kind))
  moved kind r e is up true =
      let lt = ltb-true low r (ap (follows low) (sym e) ∙ up) in
      (is, rw e (omega (arith, le, lt)), rw e (omega arith))
  moved kind r e is up false =
      let lt = ltb-true low r (ap (follows low) (sym e) ∙ up) in
      (any, omega arith, rw e (omega (arith, le, lt)))

  moves_from : (s : Section) → (is_custom_position (kind_after last s) ≡ true) × (after_rank last ≤ after_rank (kind_after last s))
      × (after_rank (kind_after last s) ≤ rank_after low (rank (section_kind s))) → Moves low last s
  moves_from s (is_any, from, to) = record { any = is_any; from = from; to = to }

  moves : (s : Section) → follows low (rank (section_kind s)) ≡ true → Moves low last s
  moves (holds CustomSection x) up = record { any = any; from = omega arith; to = le }
  moves (holds DataCountSection x) up = let lt = ltb-true low 11 up in record { any = any; from = omega arith; to = omega (arith, le, lt) }
  moves (holds TypeSection x) up = moves_from _ (moved TypeSection 1 refl refl up (has_fields TypeSection x))
  moves (holds ImportSection x) up = moves_from _ (moved ImportSection 2 refl refl up (has_fields ImportSection x))
  moves (holds FunctionSection x) up = moves_from _ (moved FunctionSection 3 refl refl up (has_fields FunctionSection x))
  moves (holds TableSection x) up = moves_from _ (moved TableSection 4 refl refl up (has_fields TableSection x))
  moves (holds MemorySection x) up = moves_from _ (moved MemorySection 5 refl refl up (has_fields MemorySection x))
  moves (holds TagSection x) up = moves_from _ (moved TagSection 6 refl refl up (has_fields TagSection x))
  moves (holds GlobalSection x) up = moves_from _ (moved GlobalSection 7 refl refl up (has_fields GlobalSection x))
  moves (holds ExportSection x) up = moves_from _ (moved ExportSection 8 refl refl up (has_fields ExportSection x))
  moves (holds StartSection x) up = moves_from _ (moved StartSection 9 refl refl up true)
  moves (holds ElementSection x) up = moves_from _ (moved ElementSection 10 refl refl up (has_fields ElementSection x))
  moves (holds CodeSection x) up = moves_from _ (moved CodeSection 12 refl refl up (has_fields CodeSection x))
  moves (holds DataSection x) up = moves_from _ (moved DataSection 13 refl refl up (has_fields DataSection x))

-- The custom sections among sections in order are in order.
pub in_order : (low : ℕ) (last : Option Kind) (ss : List Section) → is_custom_position last ≡ true → after_rank last ≤ low → are_above low ss ≡ true →
    AreInOrder (after_rank last) (customs_after last ss)
in_order low last [] any le up = tt
in_order low last (s ∷ ss) any le up =
    let parts = and_parts (follows low (rank (section_kind s))) (are_above (rank_after low (rank (section_kind s))) ss) up in
    let m : Moves low last s = moves low last any le s parts.0 in
    let rest = in_order (rank_after low (rank (section_kind s))) (kind_after last s) ss m.any m.to parts.1 in
    let after = earlier (after_rank last) (after_rank (kind_after last s)) (customs_after (kind_after last s) ss) m.from rest in
    elim (picks CustomSection s) [
      | inl other ↦ rw other after
      | inr own ↦ rw (ap (content_of CustomSection) own.1) (omega arith, any, after)
    ]
