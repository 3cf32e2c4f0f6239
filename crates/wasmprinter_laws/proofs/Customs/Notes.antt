-- The annotations of the custom sections at one position among the other sections, and that those of raw sections read
-- back
use Rattle.std.proofs.Common.{◌≡◌, ℕ, ◌+◌, Bool, true, false, cond, List, [], ◌∷◌, ◌++◌, Option, Some, None, refl, sym, ap, ◌∙◌, subst, codes, chars, append_assoc, append-nil, map, encode_utf8_all}
use Rattle.std.specs.List.{AllByRecursion}
use Rattle.std.proofs.lemmas.List.{map-append}
use Rattle.std.proofs.lemmas.Str.{encodes-chars, scalars-chars, is_utf8-from_IsUtf8}
use Rattle.wasmprinter_spec.specs.Character.{class}
use Rattle.wasmprinter_spec.specs.Grammar.{◌>>=◌, bind_some, some_is}
use Rattle.wasmprinter_spec.specs.Kinds.{Kind, CustomSection, TypeSection, ImportSection, FunctionSection, TableSection, MemorySection, TagSection, GlobalSection, ExportSection, StartSection, ElementSection, DataCountSection, CodeSection, DataSection}
use Rattle.wasmprinter_spec.specs.Placed.{CustomEntry}
use Rattle.wasmprinter_spec.specs.Forest.{Forest, End, Word, String, Group, Note, onto, without_annotations, row_customs}
use Rattle.wasmprinter_spec.specs.Code.{is_hint}
use Rattle.wasmprinter_spec.specs.Customs.{CustomTreatment, Silent, ProducersFields, DylinkSubsections, Refused, Raw, Malformed, custom_treatment_of, RawCustom, raw_custom, is_raw, raw_customs}
use Rattle.wasmprinter_spec.specs.Options.{Answers, AreUnclaimed}
use Rattle.wasmprinter_spec.specs.Piece as piece
use Rattle.wasmprinter_spec.specs.Piece.{Piece, OneSpace, Quoted, CloseParen, Claimed}
use Rattle.wasmprinter_spec.specs.Layout.DataSegments.{shown_bytes}
use Rattle.wasmprinter_spec.specs.Layout.Customs.{section_word, after_pieces, raw_pieces, malformed_pieces, fields_pieces, subsections_pieces, Part, Shown, Stops, treatment_part, custom_part, same_after, parts_at}
use Rattle.wasmprinter_spec.specs.Text.Items.{each}
use Rattle.wasmprinter_spec.specs.Text.Customs.{section_of_word, custom_after, read_custom}
use Rattle.wasmprinter_laws.proofs.Tokens.Grown.{row_customs-onto}
use Rattle.wasmprinter_laws.proofs.Tokens.Noted.{raw_row}
use Rattle.wasmprinter_laws.proofs.Tokens.Runs.{is_word}
use Rattle.wasmprinter_laws.proofs.Tokens.Printed.{is_remark, is_remark-append}
use Rattle.wasmprinter_laws.proofs.Tokens.Pieces.{Edge, Free, Bound}
use Rattle.wasmprinter_laws.proofs.Tokens.Writes.{Writes, WritesNoted, nothing_writes, break_writes, one_space_writes, word_writes, quoted_writes, plain_group_then, note_writes, note_space_writes, plain_ending_writes, claimed_writes}
use Rattle.wasmprinter_laws.proofs.Fields.DataSegments.{bytes_items, bytes_write}
use Rattle.wasmprinter_laws.proofs.Ranged.{IsRangedCustom}
use Rattle.wasmprinter_laws.proofs.Customs.Ordered.{is_custom_position}
use Rattle.wasmprinter_laws.proofs.Customs.Roles.{IsRangedTreatment, treatment_ranged}
use Rattle.wasmprinter_laws.proofs.Customs.Lines.{fields_written, subsections_written}
use Rattle.wasmprinter_laws.proofs.Customs.Parts.{PartsWrite, no_parts, shown, stopped}

-- ---- raw sections

-- The position among the other sections
abbrev kind_items : Option Kind → Forest
kind_items None = Word (codes "before") (Word (codes "first") End)
kind_items (Some kind) = Word (codes "after") (Word (section_word kind) End)

-- The items in the annotation
abbrev raw_items : Bool → CustomEntry → Forest
raw_items skeleton c = String c.section.value.name (Group (kind_items c.after) (bytes_items skeleton c.section.value.bytes.value))

abbrev raw_note : Bool → CustomEntry → Forest
raw_note skeleton c = Note (codes "custom") (raw_items skeleton c) End

section_word_is_word : (kind : Kind) → is_custom_position (Some kind) ≡ true → is_word (section_word kind) ≡ true
unfolding class
section_word_is_word CustomSection h = absurd cc
section_word_is_word DataCountSection h = absurd cc
section_word_is_word TypeSection h = refl
section_word_is_word ImportSection h = refl
section_word_is_word FunctionSection h = refl
section_word_is_word TableSection h = refl
section_word_is_word MemorySection h = refl
section_word_is_word TagSection h = refl
section_word_is_word GlobalSection h = refl
section_word_is_word ExportSection h = refl
section_word_is_word StartSection h = refl
section_word_is_word ElementSection h = refl
section_word_is_word CodeSection h = refl
section_word_is_word DataSection h = refl

two_words_write : {b : Edge} {qs : List Piece} {f : Forest} (v w : List ℕ) → is_word v ≡ true → is_word w ≡ true → Writes Bound qs b f →
    Writes Free (piece.OpenPlain v ∷ (OneSpace ∷ (piece.Word w ∷ (CloseParen ∷ qs)))) b (Group (Word v (Word w End)) f)
two_words_write v w hv hw rest = plain_group_then refl hv (one_space_writes {a = Bound} refl (word_writes hw nothing_writes)) rest

after_writes : {b : Edge} {qs : List Piece} {f : Forest} (after : Option Kind) → is_custom_position after ≡ true → Writes Bound qs b f →
    Writes Free (after_pieces after ++ qs) b (Group (kind_items after) f)
unfolding after_pieces class
after_writes None h rest = two_words_write (codes "before") (codes "first") refl refl rest
after_writes (Some kind) h rest = two_words_write (codes "after") (section_word kind) refl (section_word_is_word kind h) rest

raw_writes : {a : Edge} (skeleton : Bool) (c : CustomEntry) → is_custom_position c.after ≡ true → IsRangedCustom c.section.value →
    WritesNoted a (raw_pieces skeleton c) Bound End (raw_note skeleton c)
unfolding raw_pieces class
raw_writes skeleton c is h =
    let n : List ℕ = c.section.value.name in
    let shown : List Piece = shown_bytes skeleton c.section.value.bytes.value in
    let held : Writes Free (Quoted (chars n) ∷ (OneSpace ∷ (after_pieces c.after ++ (OneSpace ∷ shown)))) Bound
    (String (encode_utf8_all (chars n)) (Group (kind_items c.after) (bytes_items skeleton c.section.value.bytes.value))) =
    quoted_writes (scalars-chars n h.name) (one_space_writes refl (after_writes c.after is (one_space_writes refl (bytes_write skeleton c.section.value.bytes.value h.bytes)))) in
    let again : Writes Free (Quoted (chars n) ∷ (OneSpace ∷ (after_pieces c.after ++ (OneSpace ∷ shown)))) Bound (raw_items skeleton c) =
    rw (encodes-chars n h.name) at held in
    let note = note_space_writes {a = Free} {b = Bound} (codes "custom") (Quoted (chars n) ∷ (OneSpace ∷ (after_pieces c.after ++ (OneSpace ∷ shown)))) refl refl again in
    break_writes
    (subst (λ t. WritesNoted Free (piece.OpenAnnotationSpace (codes "custom") ∷ (Quoted (chars n) ∷ (OneSpace ∷ t))) Bound End (raw_note skeleton c))
    (append_assoc (after_pieces c.after) (OneSpace ∷ shown) (CloseParen ∷ [])) note)

faulted_writes : {a : Edge} (skeleton : Bool) (c : CustomEntry) → is_custom_position c.after ≡ true → IsRangedCustom c.section.value → is_remark c.section.value.name ≡ true →
    WritesNoted a (malformed_pieces skeleton c) Bound End (raw_note skeleton c)
unfolding malformed_pieces class
faulted_writes skeleton c is h remark =
    break_writes (plain_ending_writes refl
    (is_remark-append (codes "failed to parse custom section `") (c.section.value.name ++ codes "`") refl (is_remark-append c.section.value.name (codes "`") remark refl))
    (raw_writes skeleton c is h))

-- ---- raw sections read back

custom_after-items : (after : Option Kind) → is_custom_position after ≡ true → custom_after (kind_items after) ≡ Some after
unfolding section_of_word
custom_after-items None h = refl
custom_after-items (Some CustomSection) h = absurd cc
custom_after-items (Some DataCountSection) h = absurd cc
custom_after-items (Some TypeSection) h = refl
custom_after-items (Some ImportSection) h = refl
custom_after-items (Some FunctionSection) h = refl
custom_after-items (Some TableSection) h = refl
custom_after-items (Some MemorySection) h = refl
custom_after-items (Some TagSection) h = refl
custom_after-items (Some GlobalSection) h = refl
custom_after-items (Some ExportSection) h = refl
custom_after-items (Some StartSection) h = refl
custom_after-items (Some ElementSection) h = refl
custom_after-items (Some CodeSection) h = refl
custom_after-items (Some DataSection) h = refl

read_custom-items : (c : CustomEntry) → is_custom_position c.after ≡ true → IsRangedCustom c.section.value → read_custom (raw_items false c) ≡ Some (raw_custom c)
read_custom-items c is h =
    rw (is_utf8-from_IsUtf8 c.section.value.name h.name, custom_after-items c.after is, append-nil c.section.value.bytes.value)

after_cut : (after : Option Kind) → without_annotations (kind_items after) ≡ kind_items after
after_cut None = refl
after_cut (Some kind) = refl

-- The raw custom sections of a row read as these.
abbrev pub RowReads : Forest → List RawCustom → Type 0
RowReads f rs = each read_custom (raw_row f) ≡ Some rs

each-append : {A B : Type 0} (f : A → Option B) (xs ys : List A) (rs ts : List B) → each f xs ≡ Some rs → each f ys ≡ Some ts → each f (xs ++ ys) ≡ Some (rs ++ ts)
each-append f [] ys rs ts e g = g ∙ ap (λ x. Some (x ++ ts)) (some_is [] rs e)
each-append f (x ∷ xs) ys rs ts e g =
    let (first, is_first, rest) = bind_some (f x) (λ y. each f xs >>= λ zs. Some (y ∷ zs)) rs e in
    let (others, are_others, result) = bind_some (each f xs) (λ zs. Some (first ∷ zs)) rs rest in
    rw (is_first, each-append f xs ys others ts are_others g) (ap (λ x. Some (x ++ ts)) (some_is (first ∷ others) rs result))

pub both_rows : (f g : Forest) (rs ts : List RawCustom) → RowReads f rs → RowReads g ts → RowReads (onto f g) (rs ++ ts)
both_rows f g rs ts e h =
    ap (each read_custom) (ap (map without_annotations) (row_customs-onto f g) ∙ map-append without_annotations (row_customs f) (row_customs g)) ∙ each-append read_custom (raw_row f) (raw_row g) rs ts e h

-- ---- each section

-- Only annotations, none of which is a hint
abbrev pub AreNotes : Forest → Type 0
AreNotes End = Unit {0}
AreNotes (Note id f g) = (is_hint id ≡ false) × AreNotes g
AreNotes _ = ⊥

notes_onto : (f g : Forest) → AreNotes f → AreNotes g → AreNotes (onto f g)
notes_onto End g h k = k
notes_onto (Note id x f) g h k = (h.0, notes_onto f g h.1 k)
notes_onto _ g h k = absurd h

-- The annotations that a part of the custom sections writes: none before a refusal
abbrev PartWrites : Part → Forest → Type 0
PartWrites (Shown ps) k = WritesNoted Bound ps Bound End k
PartWrites (Stops ps id) k = WritesNoted Bound ps Bound End End × (k ≡ End)

-- The annotations of a section; those of a raw section read back.
record PartNotes (skeleton answer : Bool) (part : Part) (c : CustomEntry) : Type 0 where
  notes : Forest
  are : AreNotes notes
  write : PartWrites part notes
  reads : answer ≡ false → skeleton ≡ false → RowReads notes (raw_customs (c ∷ []))

module _ (skeleton answer : Bool) (c : CustomEntry) (is : is_custom_position c.after ≡ true) (h : IsRangedCustom c.section.value) where
  abbrev claim : Piece
  claim = Claimed c.section.value.name c.section.value.bytes.place c.section.value.bytes.value answer

  claim_writes : {ps : List Piece} {k : Forest} → WritesNoted Bound ps Bound End k → WritesNoted Bound (claim ∷ ps) Bound End k
  claim_writes w = claimed_writes refl w

  own_raws : (r : CustomTreatment) → custom_treatment_of c.section.value ≡ r → raw_customs (c ∷ []) ≡ cond (is_raw r) (raw_custom c ∷ []) []
  own_raws r e = by (is_raw r) (ap is_raw e)
    where
      by : (t : Bool) → is_raw (custom_treatment_of c.section.value) ≡ t → raw_customs (c ∷ []) ≡ cond t (raw_custom c ∷ []) []
      by true e = rw e
      by false e = rw e

  nothing_reads : (r : CustomTreatment) → custom_treatment_of c.section.value ≡ r → is_raw r ≡ false → RowReads End (raw_customs (c ∷ []))
  nothing_reads r e n = ap (λ t. Some t) (sym (own_raws r e ∙ ap (λ t. cond t (raw_custom c ∷ []) []) n))

  raw_reads : (r : CustomTreatment) → custom_treatment_of c.section.value ≡ r → is_raw r ≡ true → skeleton ≡ false → RowReads (raw_note skeleton c) (raw_customs (c ∷ []))
  raw_reads r e raw whole =
      let one : RowReads (raw_note false c) (raw_custom c ∷ []) = rw (after_cut c.after, read_custom-items c is h) in
      subst (λ t. RowReads (raw_note t c) (raw_customs (c ∷ []))) (sym whole)
      (subst (RowReads (raw_note false c)) (sym (own_raws r e ∙ ap (λ t. cond t (raw_custom c ∷ []) []) raw)) one)

  treatment_notes : (r : CustomTreatment) → custom_treatment_of c.section.value ≡ r → IsRangedTreatment c.section.value r → PartNotes skeleton answer (treatment_part skeleton claim c r) c
  unfolding class
  treatment_notes Silent e k = record { notes = End; are = tt; write = claim_writes nothing_writes; reads = λ u w. nothing_reads Silent e refl }
  treatment_notes (ProducersFields fields) e k =
      let w = fields_written fields k in
      record {
        notes = Note (codes "producers") w.noted End;
        are = (refl, tt);
        write = claim_writes (break_writes (note_writes 1 (codes "producers") (fields_pieces fields) refl refl w.writes));
        reads = λ u x. nothing_reads (ProducersFields fields) e refl;
      }
  treatment_notes (DylinkSubsections ss) e k =
      let w = subsections_written ss k in
      record {
        notes = Note (codes "dylink.0") w.noted End;
        are = (refl, tt);
        write = claim_writes (break_writes (note_writes 1 (codes "dylink.0") (subsections_pieces ss) refl refl w.writes));
        reads = λ u x. nothing_reads (DylinkSubsections ss) e refl;
      }
  treatment_notes (Refused id) e k =
      record { notes = End; are = tt; write = (claim_writes nothing_writes, refl); reads = λ u w. nothing_reads (Refused id) e refl }
  treatment_notes Raw e k =
      record { notes = raw_note skeleton c; are = (refl, tt); write = claim_writes (raw_writes skeleton c is h); reads = λ u w. raw_reads Raw e refl w }
  treatment_notes Malformed e k =
      record { notes = raw_note skeleton c; are = (refl, tt); write = claim_writes (faulted_writes skeleton c is h k); reads = λ u w. raw_reads Malformed e refl w }

custom_notes : (skeleton answer : Bool) (c : CustomEntry) → is_custom_position c.after ≡ true → IsRangedCustom c.section.value →
    PartNotes skeleton answer (custom_part skeleton answer c) c
custom_notes skeleton true c is h = record { notes = End; are = tt; write = claim_writes skeleton true c is h nothing_writes; reads = λ u w. absurd cc }
custom_notes skeleton false c is h = treatment_notes skeleton false c is h (custom_treatment_of c.section.value) refl (treatment_ranged c.section.value h)

-- ---- the custom sections at one position

abbrev pub customs_after_kind : Option Kind → List CustomEntry → List CustomEntry
customs_after_kind after [] = []
customs_after_kind after (c ∷ cs) = cond (same_after c.after after) (c ∷ customs_after_kind after cs) (customs_after_kind after cs)

pub raw_customs-append : (xs ys : List CustomEntry) → raw_customs (xs ++ ys) ≡ raw_customs xs ++ raw_customs ys
raw_customs-append [] ys = refl
raw_customs-append (c ∷ xs) ys =
    let own : List RawCustom = cond (is_raw (custom_treatment_of c.section.value)) (raw_custom c ∷ []) [] in
    ap (λ t. own ++ t) (raw_customs-append xs ys) ∙ sym (append_assoc own (raw_customs xs) (raw_customs ys))

-- Their annotations
pub record NotesAt (skeleton : Bool) (answers : Answers) (after : Option Kind) (n : ℕ) (cs : List CustomEntry) : Type 0 where
  pub notes : Forest
  pub are : AreNotes notes
  pub write : PartsWrite (parts_at skeleton answers after n cs) End notes
  pub reads : AreUnclaimed answers → skeleton ≡ false → RowReads notes (raw_customs (customs_after_kind after cs))

part_before : (part : Part) {parts : List Part} (k : Forest) {f h : Forest} → PartWrites part k → PartsWrite parts f h → PartsWrite (part ∷ parts) f (onto k h)
part_before (Shown ps) k w rest = shown w rest
part_before (Stops ps id) {parts = parts} k {f = f} {h = h} w rest =
    subst (λ t. PartsWrite (Stops ps id ∷ parts) f (onto t h)) (sym w.1) (stopped w.0 rest)

-- The position of each custom section is one that it can have.
abbrev pub AreAnywhere : List CustomEntry → Type 0
AreAnywhere cs = AllByRecursion (λ c. is_custom_position c.after ≡ true) cs

pub notes_at : (skeleton : Bool) (answers : Answers) (after : Option Kind) (n : ℕ) (cs : List CustomEntry) → AreAnywhere cs →
    AllByRecursion (λ c. IsRangedCustom c.section.value) cs → NotesAt skeleton answers after n cs
notes_at skeleton answers after n [] is h = record { notes = End; are = tt; write = no_parts; reads = λ u w. refl }
notes_at skeleton answers after n (c ∷ cs) is h = by (same_after c.after after) refl (notes_at skeleton answers after (n + 1) cs is.1 h.1)
  where
    one : PartNotes skeleton (answers n) (custom_part skeleton (answers n) c) c
    one = custom_notes skeleton (answers n) c is.0 h.0

    by : (t : Bool) → same_after c.after after ≡ t → NotesAt skeleton answers after (n + 1) cs → NotesAt skeleton answers after n (c ∷ cs)
    by true e rest = record {
      notes = onto one.notes rest.notes;
      are = notes_onto one.notes rest.notes one.are rest.are;
      write = rw e (part_before (custom_part skeleton (answers n) c) one.notes one.write rest.write);
      reads = λ u w. rw e (subst (RowReads (onto one.notes rest.notes)) (sym (raw_customs-append (c ∷ []) (customs_after_kind after cs)))
          (both_rows one.notes rest.notes _ _ (one.reads (u n) w) (rest.reads u w)));
    }
    by false e rest = record { notes = rest.notes; are = rest.are; write = rw e rest.write; reads = λ u w. rw e (rest.reads u w) }
