-- The loop over the sections of a module.
use Rattle.std.proofs.Common.{◌≡◌, ℕ, ◌<◌, inl, inr, true, false, List, [], ◌∷◌, ◌++◌, length, Option, Some, None, refl, sym, ap, ap₂, subst, ◌∙◌, arith, append_assoc, append-nil, length-append}
use Rattle.std.specs.List.{AllByRecursion}
use Rattle.wasmprinter_spec.specs.Grammar.{Input, bind_some, some_is}
use Rattle.wasmprinter_spec.specs.Sections.{Kind, CustomSection, FunctionSection, Section, holds, section, section_kind, rank, follows, rank_after, are_above, kind_after}
use Rattle.wasmprinter_spec.specs.Binary.{type_indices_in, tables_in, bodies_in}
use Rattle.wasmprinter_spec.proofs.Ordered.{last_rank, last_rank_push, above_push, above_midst}
use Rattle.wasmprinter_bytes.specs.Reads.{end_of}
use Rattle.wasmprinter_bytes.specs.declared.library_error.Error.{Error}
use Rattle.wasmprinter_bytes.specs.Reasons.{HasReason}
use Rattle.wasmprinter_bytes.proofs.Reasons.{reason_implied}
use Rattle.wasmprinter_decoder.specs.Refusals.{FirstIsOver, FirstIsEmpty}
use Rattle.wasmprinter_decoder.specs.Contents.{IsSectionWithinLimits, HasCount, HasOver, HasEmpty, item_count}
use Rattle.wasmprinter_decoder.specs.Sections.{section_reasons}
use Rattle.wasmprinter_decoder.specs.Gathering.{Gathered, none_gathered, Kept, gathered_items, with_section, IsHeld, sections_at, item_count_in, HoldsSections, sections_reasons}
use Rattle.wasmprinter_decoder.proofs.LaterPlaces.{IsLater, later_none, later_more, many_later, empty_later, section_later, kept_later, custom_read}
use Rattle.wasmprinter_decoder.proofs.ItemsToEnd.{in_front, until_item, until_fault, until_done}
use Rattle.wasmprinter_decoder.proofs.OrderedSections.{custom_kind, last_kind, last_kind_push, kept_none, kept_with, kept_push, kept_added, some_midst, count_midst, over_midst, empty_midst}

-- A section has at least one byte.
pub takes_byte : (at : Input) (x : Section × Input) → section.parse at ≡ Some x → length x.1.bytes < length at.bytes
takes_byte at x r =
    let s = section.sound at x r in
    let (pair, kept, (front, after, joined, (id, of_kind, id_spelled), spelled)) = s.spelled in
    omega (arith, ap length s.parts, length-append s.text x.1.bytes, ap length joined, length-append front after, ap length id_spelled)

-- The invariant of the loop: the sections from `start` to `at` were read, and `g` has their contents.
pub record Gathering (start at : Input) (g : Gathered) : Type 0 where
  pub sections : List Section
  pub is : sections_at start ≡ in_front sections (sections_at at)
  pub rise : are_above 0 sections ≡ true
  pub small : AllByRecursion IsSectionWithinLimits sections
  pub rank : g.rank ≡ last_rank 0 sections
  pub after : g.after ≡ last_kind None sections
  pub held : IsHeld g sections
  pub later : IsLater start at
  pub ends : end_of at ≡ end_of start

-- Putting no sections before a result leaves it unchanged.
front_nil : (r : Option (List Section)) → r ≡ in_front [] r
front_nil None = refl
front_nil (Some ss) = refl

-- Before the loop no section was read.
pub gathering_none : (at : Input) (g : Gathered) → g ≡ none_gathered → Gathering at at g
gathering_none at g same = record {
  sections = [];
  is = front_nil (sections_at at);
  rise = refl;
  small = tt;
  rank = ap (λ (x : Gathered). x.rank) same;
  after = ap (λ (x : Gathered). x.after) same;
  held = λ kind. ap (gathered_items kind) same ∙ kept_none kind;
  later = later_none at;
  ends = refl;
}

-- Putting one section and then others before a result is the same as putting all of them before it.
front_front : (xs : List Section) (s : Section) (r : Option (List Section)) → in_front xs (in_front (s ∷ []) r) ≡ in_front (xs ++ s ∷ []) r
front_front xs s None = refl
front_front xs s (Some ss) = ap (λ (ys : List Section). Some ys) (sym (append_assoc xs (s ∷ []) ss))

-- If all sections and one more are within the limits, then so is the longer list.
small-push : (ss : List Section) (s : Section) → AllByRecursion IsSectionWithinLimits ss → IsSectionWithinLimits s → AllByRecursion IsSectionWithinLimits (ss ++ s ∷ [])
small-push [] s all small = (small, tt)
small-push (x ∷ xs) s all small = (all.0, small-push xs s all.1 small)

-- A section was read.
module _ (start at after : Input) (g : Gathered) (s : Section) (read : section.parse at ≡ Some (s, after)) (k : Gathering start at g) where
  -- The sections from `start` are those read so far, this one, and those read after it.
  one_more : sections_at start ≡ in_front (k.sections ++ s ∷ []) (sections_at after)
  one_more = k.is ∙ ap (in_front k.sections) (until_item section takes_byte at after s read) ∙ front_front k.sections s (sections_at after)

  -- If the section is in order, then the invariant holds after it.
  pub gathering_more : IsSectionWithinLimits s → follows g.rank (rank (section_kind s)) ≡ true → end_of after ≡ end_of at → (next : Gathered) → next ≡ with_section g s → Gathering start after next
  gathering_more small on ends next same = record {
    sections = k.sections ++ s ∷ [];
    is = one_more;
    rise = above_push 0 k.sections s k.rise (ap (λ (r : ℕ). follows r (rank (section_kind s))) (sym k.rank) ∙ on);
    small = small-push k.sections s k.small small;
    rank = ap (λ (x : Gathered). x.rank) same ∙ ap (λ (r : ℕ). rank_after r (rank (section_kind s))) k.rank ∙ sym (last_rank_push 0 k.sections s);
    after = ap (λ (x : Gathered). x.after) same ∙ ap (λ (last : Option Kind). kind_after last s) k.after ∙ sym (last_kind_push None k.sections s);
    held = λ kind.
        ap (gathered_items kind) same ∙ kept_added kind g s ∙ ap₂ (λ (last : Option Kind) (c : Kept kind). kept_with kind last c s) k.after (k.held kind)
        ∙ sym (kept_push kind k.sections s);
    later = later_more section start at after s read k.later;
    ends = ends ∙ k.ends;
  }

  -- If the section is out of order, then the bytes from `start` are not sections in order.
  pub gathering_unordered : follows g.rank (rank (section_kind s)) ≡ false → (ss : List Section) → sections_at start ≡ Some ss → are_above 0 ss ≡ true → ⊥
  gathering_unordered off ss r up =
      let (rest, parsed, whole) = bind_some (sections_at after) (λ ys. Some ((k.sections ++ s ∷ []) ++ ys)) ss (sym one_more ∙ r) in
      let all : k.sections ++ s ∷ rest ≡ ss =
      sym (append_assoc k.sections (s ∷ []) rest) ∙ some_is ((k.sections ++ s ∷ []) ++ rest) ss whole in
      let rise : are_above 0 (k.sections ++ s ∷ rest) ≡ true = ap (are_above 0) all ∙ up in
      let on : follows g.rank (rank (section_kind s)) ≡ true =
      ap (λ (r : ℕ). follows r (rank (section_kind s))) k.rank ∙ above_midst 0 k.sections s rest rise in
      absurd (let clash : false ≡ true = sym off ∙ on in cc)

-- Reading a section returned an error.
module _ (start at : Input) (g : Gathered) (some : at.bytes ≡ [] → ⊥) (k : Gathering start at g) where
  -- The section at `at`, as one of the sections `ss`.
  record Next (ss : List Section) : Type 0 where
    item : Section
    after : Input
    rest : List Section
    first : section.parse at ≡ Some (item, after)
    all : k.sections ++ item ∷ rest ≡ ss

  -- If sections up to the end are read, then there is a section at `at`.
  next_of : (r : Option (Section × Input)) → section.parse at ≡ r → (ss : List Section) → sections_at start ≡ Some ss → Next ss
  next_of None e ss read =
      let none : sections_at start ≡ None = k.is ∙ ap (in_front k.sections) (until_fault section takes_byte at some e) in
      absurd (let clash : ◌≡◌ {A = Option (List Section)} None (Some ss) = sym none ∙ read in cc)
  next_of (Some (s, after)) e ss read =
      let (rest, parsed, whole) =
      bind_some (sections_at after) (λ ys. Some ((k.sections ++ s ∷ []) ++ ys)) ss (sym (one_more start at after g s e k) ∙ read) in
      record {
        item = s;
        after = after;
        rest = rest;
        first = e;
        all = sym (append_assoc k.sections (s ∷ []) rest) ∙ some_is ((k.sections ++ s ∷ []) ++ rest) ss whole;
      }

  -- If `P` holds for the section at `at`, if there is one, then `Q` holds for all sections, if they are in order.
  of_sections : (P : Section → Type 0) (Q : List Section → Type 0) → ((xs : List Section) (s : Section) (ys : List Section) → are_above 0 (xs ++ s ∷ ys) ≡ true → P s → Q (xs ++ s ∷ ys))
      → ((x : Section × Input) → section.parse at ≡ Some x → P x.0) → (ss : List Section) → sections_at start ≡ Some ss → are_above 0 ss ≡ true → Q ss
  of_sections P Q midst h ss read up =
      let n = next_of (section.parse at) refl ss read in
      let rise : are_above 0 (k.sections ++ n.item ∷ n.rest) ≡ true = ap (are_above 0) n.all ∙ up in
      subst Q n.all (midst k.sections n.item n.rest rise (h (n.item, n.after) n.first))

  -- If there is no section at `at`, then the bytes from `start` are not sections in order.
  malformed_fault : (place : ℕ) → (section_reasons at).malformed place → (sections_reasons start).malformed place
  malformed_fault place h = (
    λ ss read up.
        let n = next_of (section.parse at) refl ss read in
        let clash : ◌≡◌ {A = Option (Section × Input)} None (Some (n.item, n.after)) = sym h.0 ∙ n.first in
        cc,
    omega (arith, h.1, k.ends, k.later.begins),
  )

  -- A true reason for an error of one section is a true reason for that error of all sections.
  pub gathering_fault : (f : Error) → HasReason (section_reasons at) f → HasReason (sections_reasons start) f
  gathering_fault = reason_implied (section_reasons at) (sections_reasons start) (record {
    malformed = malformed_fault;
    component = λ h. h;
    locals = λ place h. (many_later start at place k.later h.0, of_sections (HasOver place) (λ (ss : List Section). FirstIsOver place (bodies_in ss)) (over_midst place) h.1);
    functions = λ count (begins, many, counted). (
      section_later start at FunctionSection count k.later begins,
      many,
      of_sections (HasCount count) (λ (ss : List Section). length (type_indices_in ss) ≡ count) (count_midst count) counted,
    );
    tables = λ place h. (empty_later start at place k.later h.0, of_sections (HasEmpty place) (λ (ss : List Section). FirstIsEmpty place (tables_in ss)) (empty_midst place) h.1);
    memory = λ h. (kept_later start at k.later (inl h.0), of_sections (λ (s : Section). 0 < item_count s) (λ (ss : List Section). 0 < item_count_in ss) some_midst h.1);
  })

  -- If an allocation failed when a section was stored, then the section is a custom one, and `Memory` has a true
  -- reason.
  pub gathering_unkept : (s : Section) (after : Input) → section.parse at ≡ Some (s, after) → section_kind s ≡ CustomSection → (sections_reasons start).memory
  gathering_unkept s after read is =
      let c = custom_kind s is in
      let custom : section.parse at ≡ Some (holds CustomSection c.0, after) = read ∙ ap (λ (x : Section). Some (x, after)) c.1 in
      let one : (x : Section × Input) → section.parse at ≡ Some x → 0 < item_count x.0 = λ x e.
      let same : holds CustomSection c.0 ≡ x.0 = ap (λ (y : Section × Input). y.0) (some_is (holds CustomSection c.0, after) x (sym custom ∙ e)) in
      omega (arith, ap item_count same) in (
        kept_later start at k.later (inr (custom_read at after c.0 custom)),
        of_sections (λ (s : Section). 0 < item_count s) (λ (ss : List Section). 0 < item_count_in ss) some_midst one,
      )

-- If no byte is left, then all sections were read.
pub gathering_done : (start at : Input) (g : Gathered) → at.bytes ≡ [] → Gathering start at g → HoldsSections start g
gathering_done start at g none k = record {
  sections = k.sections;
  read = k.is ∙ ap (in_front k.sections) (until_done section takes_byte at none) ∙ ap (λ (ss : List Section). Some ss) (append-nil k.sections);
  rise = k.rise;
  small = k.small;
  held = k.held;
}
