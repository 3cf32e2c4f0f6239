-- The reasons for errors of a section's content are reasons for errors of the section.
use Rattle.std.proofs.Common.{◌≡◌, ℕ, ◌<◌, List, [], ◌∷◌, ◌++◌, length, Option, Some, None, refl, sym, ap, subst, ◌∙◌, arith, length-append, append_assoc}
use Rattle.std.specs.Prelude.{Result, Ok, Err}
use Rattle.wasmprinter_spec.specs.Grammar.{Input, ◌>>=◌, bind_some, some_is, byte}
use Rattle.wasmprinter_spec.specs.Name.{u32}
use Rattle.wasmprinter_spec.specs.Sized.{front_at}
use Rattle.wasmprinter_spec.specs.Sections.{Kind, kind_of, Content, Section, holds, content, section}
use Rattle.wasmprinter_bytes.specs.Reads.{IsPlaceIn}
use Rattle.wasmprinter_bytes.specs.declared.library_error.Error.{Error}
use Rattle.wasmprinter_bytes.specs.declared.library_error.Error.TheVariants.{Malformed as AtPlace}
use Rattle.wasmprinter_bytes.specs.Reasons.{HasReason}
use Rattle.wasmprinter_bytes.proofs.Reasons.{reason_implied}
use Rattle.wasmprinter_decoder.specs.declared.sections.Section.{Section as SectionRead}
use Rattle.wasmprinter_decoder.specs.Refusals.{BeginsSection}
use Rattle.wasmprinter_decoder.specs.Sections.{section_view, section_reasons, TakesContent, TakesSection}
use Rattle.wasmprinter_decoder.specs.Contents.{HasOver, HasEmpty, HasCount, item_count, CountStands, content_reasons}
use Rattle.wasmprinter_decoder.proofs.Parts.{sized, sized_is, sized_none, sized_some, old_parts, part_within}
use Rattle.wasmprinter_decoder.proofs.LaterPlaces.{many_in_part, IsLater, later_none, later_more, many_later, empty_later, empty_in_part}

-- An id and a size were read, and that many bytes cut out.
module _ (old after_id mid part new : Input) (id size : ℕ) (id_read : byte.parse old ≡ Some (id, after_id)) (size_read : u32.parse after_id ≡ Some (size, mid))
    (cut : front_at size mid ≡ Some (part.bytes, new)) (begins : part.place ≡ mid.place) where
  -- The size comes after the id.
  later : IsLater old after_id
  later = later_more byte old old after_id id id_read (later_none old)

  -- A place in the part is in the whole.
  within : (place : ℕ) → IsPlaceIn part place → IsPlaceIn old place
  within place le =
      let p = part_within after_id mid part new size size_read cut begins in
      omega (arith, p, le, ap length later.parts, later.begins, length-append later.text after_id.bytes)

  -- If no kind has the id, then no section is read.
  no_section : kind_of id ≡ None → section.parse old ≡ None
  no_section none = rw (id_read, none) refl

  -- The id is that of a kind.
  module _ (kind : Kind) (is : kind_of id ≡ Some kind) where
    -- The section with the content that was read.
    abbrev made : Option ((ℕ × Content kind) × Input) → Option (Section × Input)
    made r = r >>= λ ((_, c), rest). Some (holds kind c, rest)

    -- The section, paired with its kind.
    abbrev with_kind : Option (Section × Input) → Option ((Kind × Section) × Input)
    with_kind r = r >>= λ b. Some ((kind, b.0), b.1)

    -- The section, paired with its kind and then without it.
    abbrev after_kind : Option (Section × Input) → Option (Section × Input)
    after_kind r = with_kind r >>= λ ((_, s), rest). Some (s, rest)

    -- Pairing a section with its kind and dropping the kind again changes nothing.
    regroup : (r : Option (Section × Input)) → after_kind r ≡ r
    regroup None = refl
    regroup (Some a) = refl

    -- Reading a section is reading its sized content.
    into : section.parse old ≡ made ((sized after_id mid part new size size_read cut begins (content kind)).parse after_id)
    into = rw (id_read, is) (regroup (made ((sized after_id mid part new size size_read cut begins (content kind)).parse after_id)))

    -- If the part is read as content, then the section with this content is read.
    section_read : (c : Content kind) → (content kind).parse part ≡ Some c → section.parse old ≡ Some (holds kind c, new)
    section_read c e = into ∙ ap made (sized_is after_id mid part new size size_read cut begins (content kind)) ∙ rw e refl

    -- If a section is read, then its content is read from the part.
    section_content : (x : Section × Input) → section.parse old ≡ Some x → (c : Content kind) × ((content kind).parse part ≡ Some c) × (holds kind c ≡ x.0)
    section_content x r =
        let (((front, c), after), parsed, given) =
        bind_some ((sized after_id mid part new size size_read cut begins (content kind)).parse after_id)
        (λ ((_, c), rest). Some (holds kind c, rest)) x (sym into ∙ r) in (
          c,
          sized_some after_id mid part new size size_read cut begins (content kind) ((front, c), after) parsed,
          ap (λ (y : Section × Input). y.0) (some_is (holds kind c, after) x given),
        )

    -- If `P` holds for the section with the content of the part, then it holds for the section that is read.
    of_section : (P : Section → Type 0) → ((c : Content kind) → (content kind).parse part ≡ Some c → P (holds kind c)) → (x : Section × Input) → section.parse old ≡ Some x → P x.0
    of_section P h x r = let (c, parsed, is) = section_content x r in subst P is (h c parsed)

    -- A section of the kind begins here, with the count.
    begun : (count : ℕ) → CountStands part count → BeginsSection old kind count
    begun count c =
        let first = byte.sound old (id, after_id) id_read in
        let (size_text, split, part_begins, size_spelled) = old_parts after_id mid part new size size_read cut begins in
        let n = u32.sound part (count, c.after) c.counted in
        let head : old.bytes ≡ id ∷ after_id.bytes = first.parts ∙ ap (λ (bs : List ℕ). bs ++ after_id.bytes) first.spelled in
        let front : part.bytes ++ new.bytes ≡ n.text ++ (c.after.bytes ++ new.bytes) = ap (λ (bs : List ℕ). bs ++ new.bytes) n.parts ∙ append_assoc n.text c.after.bytes new.bytes in
        record {
          before = [];
          id = id;
          of_kind = is;
          size_text = size_text;
          count_text = n.text;
          after = c.after.bytes ++ new.bytes;
          parts = head ∙ ap (λ (bs : List ℕ). id ∷ bs) (split ∙ ap (λ (bs : List ℕ). size_text ++ bs) front);
          size = size;
          sized = size_spelled;
          counted = n.spelled;
        }

    -- A true reason for an error of the content is a true reason for that error of the section.
    kind_fault : (f : Error) → HasReason (content_reasons kind part) f → HasReason (section_reasons old) f
    kind_fault = reason_implied (content_reasons kind part) (section_reasons old) (record {
      malformed = λ place h. (into ∙ ap made (sized_none after_id mid part new size size_read cut begins (content kind) h.0), within place h.1);
      component = λ h. h;
      locals = λ place h.
          let (size_text, split, part_begins, size_spelled) = old_parts after_id mid part new size size_read cut begins in
          let there = many_in_part after_id part size_text new.bytes place split part_begins h.0 in
          (many_later old after_id place later there, of_section (HasOver place) h.1);
      functions = λ count (of_functions, stands, many, counted).
          (subst (λ (k : Kind). BeginsSection old k count) of_functions (begun count stands), many, of_section (HasCount count) counted);
      tables = λ place h.
          let (size_text, split, part_begins, size_spelled) = old_parts after_id mid part new size size_read cut begins in
          let there = empty_in_part after_id part size_text new.bytes place split part_begins h.0 in
          (empty_later old after_id place later there, of_section (HasEmpty place) h.1);
      memory = λ (listed, stands, some). (
        record {
          kind = kind;
          listed = listed;
          count = stands.count;
          some = stands.some;
          begins = begun stands.count (record { after = stands.after; counted = stands.counted });
        },
        of_section (λ (s : Section). 0 < item_count s) some,
      );
    })

  -- If no kind has the id, then the section is malformed at the id.
  none_fault : kind_of id ≡ None → (f : Error) → f ≡ AtPlace old.place → HasReason (section_reasons old) f
  none_fault none f e = rw e (no_section none, omega arith)

  -- The result of reading the part is a result of reading the section.
  section_taken : (o : Option Kind) → kind_of id ≡ o → (r : Result SectionRead Error) → TakesContent old.place o part r → TakesSection old r new
  section_taken (Some kind) is (Ok s) h =
      let (c, parsed, given) = bind_some ((content kind).parse part) (λ x. Some (holds kind x)) (section_view s) h.0 in
      (section_read kind is c parsed ∙ ap (λ (x : Section). Some (x, new)) (some_is (holds kind c) (section_view s) given), h.1)
  section_taken (Some kind) is (Err f) h = kind_fault kind is f h
  section_taken None none (Ok s) h = absurd h
  section_taken None none (Err f) h = none_fault none f h

  pub section_taken_by : (place : ℕ) → place ≡ old.place → (r : Result SectionRead Error) → TakesContent place (kind_of id) part r → TakesSection old r new
  section_taken_by place is r h = section_taken (kind_of id) refl r (subst (λ p. TakesContent p (kind_of id) part r) is h)
