-- The places of the lines of custom sections are outside of the interval of the bodies.
use Rattle.std.proofs.Common.{ℕ, ◌+◌, ◌-◌, ◌==◌, ◌&&◌, List, [], ◌∷◌, Bool, true, false, Option, Some, None, refl, codes}
use Rattle.std.specs.Prelude.{if◌then◌else◌}
use Rattle.std.specs.List.{AllByRecursion, flat_map}
use Rattle.wasmprinter_spec.specs.Grammar.{Placed}
use Rattle.wasmprinter_spec.specs.Kinds.{Kind}
use Rattle.wasmprinter_spec.specs.Placed.{Custom, CustomEntry}
use Rattle.wasmprinter_spec.specs.Customs.{CustomTreatment, Silent, ProducersFields, DylinkSubsections, Refused, Raw, Malformed, custom_treatment_of}
use Rattle.wasmprinter_spec.specs.Customs.Producers.{Value, Field}
use Rattle.wasmprinter_spec.specs.Customs.Dylink.{MemInfo, ExportInfo, ImportInfo, SubsectionContent, Sizes, Needed, Exports, Imports, Paths, Other, Subsection}
use Rattle.wasmprinter_spec.specs.Options.{Answers}
use Rattle.wasmprinter_spec.specs.Piece.{Piece, Claimed}
use Rattle.wasmprinter_spec.specs.Layout.Groups.{close, has_break}
use Rattle.wasmprinter_spec.specs.Layout.Customs.{after_pieces, raw_pieces, malformed_pieces, note, space_quoted_list, values_pieces, fields_pieces, has_flag, flag_words, flags_by, flags_pieces, sizes_group, sizes_pieces, names_pieces, exports_pieces, import_infos_pieces, content_pieces, subsections_pieces, Part, Shown, Stops, treatment_part, custom_part, same_after, parts_at}
use Rattle.wasmprinter_spec.specs.Lines.{places}
use Rattle.wasmprinter_spec.specs.Apart.{IsOutside, treatment_places, custom_places}
use Rattle.wasmprinter_laws.proofs.Lines.Indexes.{AreElsewhere}
use Rattle.wasmprinter_spec.proofs.Each.{all_parts}
use Rattle.wasmprinter_spec.proofs.OneLine.{starts, IsOneLine, nothing_stays, both_stay, then_stay, alone_stays, cond_stays}
use Rattle.wasmprinter_laws.proofs.Lines.FieldLines.{elsewhere_both, pieces_elsewhere, stay_elsewhere, close_elsewhere, bytes_stay}

-- ---- pieces that begin no line

pub after_pieces_stay : (k : Option Kind) → IsOneLine (after_pieces k)
unfolding after_pieces
after_pieces_stay None = then_stay refl (then_stay refl (then_stay refl (alone_stays refl)))
after_pieces_stay (Some kind) = then_stay refl (then_stay refl (then_stay refl (alone_stays refl)))

pub quoted_list_stays : (ss : List (List ℕ)) → IsOneLine (space_quoted_list ss)
unfolding space_quoted_list
quoted_list_stays [] = nothing_stays
quoted_list_stays (s ∷ ss) = then_stay refl (then_stay refl (quoted_list_stays ss))

flags_by_stay : (rows : List (ℕ × List ℕ)) (rest : ℕ) → IsOneLine (flags_by rows rest)
unfolding flags_by
flags_by_stay [] rest = cond_stays (rest == 0) nothing_stays (then_stay refl (alone_stays refl))
flags_by_stay (row ∷ rows) rest = cond_stays (has_flag rest row.0) (then_stay refl (then_stay refl (flags_by_stay rows (rest - row.0)))) (flags_by_stay rows rest)

pub flags_stay : (flags : ℕ) → IsOneLine (flags_pieces flags)
unfolding flags_pieces
flags_stay flags = flags_by_stay flag_words flags

pub sizes_group_stays : (w : List ℕ) (a b : ℕ) → IsOneLine (sizes_group w a b)
unfolding sizes_group
sizes_group_stays w a b =
    cond_stays ((a == 0) && (b == 0)) nothing_stays (then_stay refl (then_stay refl (then_stay refl (then_stay refl (then_stay refl (then_stay refl (alone_stays refl)))))))

-- ---- parts

-- The lines of a part
abbrev pub part_starts : Part → List (Option ℕ)
part_starts (Shown ps) = flat_map starts ps
part_starts (Stops ps id) = flat_map starts ps

abbrev pub part_lines : List Part → List (Option ℕ)
part_lines parts = flat_map part_starts parts

module _ (low high : ℕ) where
  abbrev Elsewhere : List Piece → Type 0
  Elsewhere ps = AreElsewhere low high (flat_map starts ps)

  raw_elsewhere : (skeleton : Bool) (c : CustomEntry) → IsOutside low high c.section.place → Elsewhere (raw_pieces skeleton c)
  unfolding raw_pieces
  raw_elsewhere skeleton c h =
      (h, stay_elsewhere low high (both_stay (after_pieces_stay c.after) (then_stay refl (both_stay (bytes_stay skeleton c.section.value.bytes.value) (alone_stays refl)))))

  faulted_elsewhere : (skeleton : Bool) (c : CustomEntry) → IsOutside low high c.section.value.bytes.place → IsOutside low high c.section.place → Elsewhere (malformed_pieces skeleton c)
  unfolding malformed_pieces
  faulted_elsewhere skeleton c h k = (h, raw_elsewhere skeleton c k)

  note_elsewhere : (w : List ℕ) (ps : List Piece) → Elsewhere ps → Elsewhere (note w ps)
  note_elsewhere w ps h = pieces_elsewhere low high ps (close None 1 (has_break ps)) h (close_elsewhere low high 1 (has_break ps))

  -- ---- `producers`

  values_elsewhere : (field : List ℕ) (vs : List (Placed Value)) → AllByRecursion (IsOutside low high) (places vs) → Elsewhere (values_pieces field vs)
  unfolding values_pieces
  values_elsewhere field [] h = tt
  values_elsewhere field (v ∷ vs) h = (h.0, values_elsewhere field vs h.1)

  fields_elsewhere : (fs : List Field) → AllByRecursion (IsOutside low high) (flat_map (λ f. places f.values) fs) → Elsewhere (fields_pieces fs)
  unfolding fields_pieces
  fields_elsewhere [] h = tt
  fields_elsewhere (f ∷ fs) h =
      let parts = all_parts (IsOutside low high) (places f.values) (flat_map (λ g. places g.values) fs) h in
      pieces_elsewhere low high (values_pieces f.name f.values) (fields_pieces fs) (values_elsewhere f.name f.values parts.0) (fields_elsewhere fs parts.1)

  -- ---- `dylink.0`

  exports_elsewhere : (place : ℕ) (es : List ExportInfo) → IsOutside low high place → Elsewhere (exports_pieces place es)
  unfolding exports_pieces
  exports_elsewhere place [] h = tt
  exports_elsewhere place (e ∷ es) h = (h, pieces_elsewhere low high (flags_pieces e.flags) _ (stay_elsewhere low high (flags_stay e.flags)) (exports_elsewhere place es h))

  imports_elsewhere : (place : ℕ) (is : List ImportInfo) → IsOutside low high place → Elsewhere (import_infos_pieces place is)
  unfolding import_infos_pieces
  imports_elsewhere place [] h = tt
  imports_elsewhere place (i ∷ is) h = (h, pieces_elsewhere low high (flags_pieces i.flags) _ (stay_elsewhere low high (flags_stay i.flags)) (imports_elsewhere place is h))

  names_elsewhere : (w : List ℕ) (place : ℕ) (ns : List (List ℕ)) → IsOutside low high place → Elsewhere (names_pieces w place ns)
  unfolding names_pieces
  names_elsewhere w place ns h = (h, stay_elsewhere low high (both_stay (quoted_list_stays ns) (alone_stays refl)))

  sizes_elsewhere : (place : ℕ) (m : MemInfo) → IsOutside low high place → Elsewhere (sizes_pieces place m)
  unfolding sizes_pieces
  sizes_elsewhere place m h =
      (h, stay_elsewhere low high (both_stay (sizes_group_stays (codes "memory") m.memory_size m.memory_alignment) (both_stay (sizes_group_stays (codes "table") m.table_size m.table_alignment) (alone_stays refl))))

  content_elsewhere : (place : ℕ) (c : SubsectionContent) → IsOutside low high place → Elsewhere (content_pieces place c)
  content_elsewhere place (Sizes m) h = sizes_elsewhere place m h
  content_elsewhere place (Needed ns) h = names_elsewhere (codes "needed") place ns h
  content_elsewhere place (Exports es) h = exports_elsewhere place es h
  content_elsewhere place (Imports is) h = imports_elsewhere place is h
  content_elsewhere place (Paths ps) h = names_elsewhere (codes "runtime-path") place ps h
  content_elsewhere place (Other id) h = tt

  subsections_elsewhere : (ss : List Subsection) → AllByRecursion (IsOutside low high) (places ss) → Elsewhere (subsections_pieces ss)
  unfolding subsections_pieces
  subsections_elsewhere [] h = tt
  subsections_elsewhere (s ∷ ss) h =
      pieces_elsewhere low high (content_pieces s.place s.value) (subsections_pieces ss) (content_elsewhere s.place s.value h.0) (subsections_elsewhere ss h.1)

  -- ---- single sections

  treatment_elsewhere : (skeleton : Bool) (name : List ℕ) (place : ℕ) (bytes : List ℕ) (answer : Bool) (c : CustomEntry) (r : CustomTreatment) → IsOutside low high c.section.place → IsOutside low high c.section.value.bytes.place →
      AllByRecursion (IsOutside low high) (treatment_places r) → AreElsewhere low high (part_starts (treatment_part skeleton (Claimed name place bytes answer) c r))
  treatment_elsewhere skeleton name place bytes answer c Silent h k l = tt
  treatment_elsewhere skeleton name place bytes answer c (ProducersFields fields) h k l = (h, note_elsewhere (codes "producers") (fields_pieces fields) (fields_elsewhere fields l))
  treatment_elsewhere skeleton name place bytes answer c (DylinkSubsections ss) h k l = (h, note_elsewhere (codes "dylink.0") (subsections_pieces ss) (subsections_elsewhere ss l))
  treatment_elsewhere skeleton name place bytes answer c (Refused id) h k l = tt
  treatment_elsewhere skeleton name place bytes answer c Raw h k l = raw_elsewhere skeleton c h
  treatment_elsewhere skeleton name place bytes answer c Malformed h k l = faulted_elsewhere skeleton c k h

  custom_elsewhere : (skeleton answer : Bool) (c : CustomEntry) → AllByRecursion (IsOutside low high) (custom_places c) → AreElsewhere low high (part_starts (custom_part skeleton answer c))
  custom_elsewhere skeleton true c h = tt
  custom_elsewhere skeleton false c (section, (content, others)) =
      let s : Custom = c.section.value in
      treatment_elsewhere skeleton s.name s.bytes.place s.bytes.value false c (custom_treatment_of s) section content others

  if_elsewhere : (b : Bool) (part : Part) (parts : List Part) → AreElsewhere low high (part_starts part) → AreElsewhere low high (part_lines parts) →
      AreElsewhere low high (part_lines (if b then part ∷ parts else parts))
  if_elsewhere true part parts h k = elsewhere_both low high (part_starts part) (part_lines parts) h k
  if_elsewhere false part parts h k = k

  pub customs_elsewhere : (skeleton : Bool) (answers : Answers) (place : Option Kind) (n : ℕ) (cs : List CustomEntry) → AllByRecursion (IsOutside low high) (flat_map custom_places cs) →
      AreElsewhere low high (part_lines (parts_at skeleton answers place n cs))
  customs_elsewhere skeleton answers place n [] h = tt
  customs_elsewhere skeleton answers place n (c ∷ cs) h =
      let own = all_parts (IsOutside low high) (custom_places c) (flat_map custom_places cs) h in
      if_elsewhere (same_after c.after place) (custom_part skeleton (answers n) c) (parts_at skeleton answers place (n + 1) cs)
      (custom_elsewhere skeleton (answers n) c own.0) (customs_elsewhere skeleton answers place (n + 1) cs own.1)
