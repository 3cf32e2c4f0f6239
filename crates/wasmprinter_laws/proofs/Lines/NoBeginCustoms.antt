-- Custom sections do not begin the first line.
use Rattle.std.proofs.Common.{ℕ, ◌+◌, List, [], ◌∷◌, ◌++◌, Bool, true, false, Option, Some, None, refl, codes}
use Rattle.std.specs.Prelude.{if◌then◌else◌}
use Rattle.std.specs.List.{AllByRecursion}
use Rattle.wasmprinter_spec.specs.Grammar.{Placed}
use Rattle.wasmprinter_spec.specs.Kinds.{Kind}
use Rattle.wasmprinter_spec.specs.Placed.{Custom, CustomEntry}
use Rattle.wasmprinter_spec.specs.Customs.{CustomTreatment, Silent, ProducersFields, DylinkSubsections, Refused, Raw, Malformed, custom_treatment_of}
use Rattle.wasmprinter_spec.specs.Customs.Producers.{Value, Field}
use Rattle.wasmprinter_spec.specs.Customs.Dylink.{MemInfo, ExportInfo, ImportInfo, SubsectionContent, Sizes, Needed, Exports, Imports, Paths, Other, Subsection}
use Rattle.wasmprinter_spec.specs.Options.{Answers}
use Rattle.wasmprinter_spec.specs.Piece.{Piece, Claimed}
use Rattle.wasmprinter_spec.specs.Layout.Groups.{has_break}
use Rattle.wasmprinter_spec.specs.Layout.Customs.{raw_pieces, malformed_pieces, note, values_pieces, fields_pieces, sizes_pieces, names_pieces, exports_pieces, import_infos_pieces, content_pieces, subsections_pieces, Part, Shown, Stops, treatment_part, custom_part, same_after, parts_at, laid_parts}
use Rattle.wasmprinter_spec.proofs.Each.{all_both}
use Rattle.wasmprinter_spec.proofs.OneLine.{both_stay, then_stay, alone_stays}
use Rattle.wasmprinter_laws.proofs.Lines.FieldLines.{bytes_stay}
use Rattle.wasmprinter_laws.proofs.Lines.CustomLines.{after_pieces_stay, quoted_list_stays, flags_stay, sizes_group_stays}
use Rattle.wasmprinter_laws.proofs.Lines.NoBegin.{HasNoBegin, nothing_none, both_none, then_none, alone_none, line_none, field_none, close_none}

raw_none : (skeleton : Bool) (c : CustomEntry) → HasNoBegin (raw_pieces skeleton c)
unfolding raw_pieces
raw_none skeleton c =
    field_none (Some c.section.place) 1 (line_none (then_stay refl (then_stay refl (then_stay refl
    (both_stay (after_pieces_stay c.after) (then_stay refl (both_stay (bytes_stay skeleton c.section.value.bytes.value) (alone_stays refl))))))))

faulted_none : (skeleton : Bool) (c : CustomEntry) → HasNoBegin (malformed_pieces skeleton c)
unfolding malformed_pieces
faulted_none skeleton c = then_none tt (then_none tt (raw_none skeleton c))

note_none : (w : List ℕ) {ps : List Piece} → HasNoBegin ps → HasNoBegin (note w ps)
note_none w {ps} h = then_none tt (both_none h (close_none None 1 (has_break ps)))

-- ---- `producers`

values_none : (field : List ℕ) (vs : List (Placed Value)) → HasNoBegin (values_pieces field vs)
unfolding values_pieces
values_none field [] = nothing_none
values_none field (v ∷ vs) = then_none tt (then_none tt (then_none tt (then_none tt (then_none tt (then_none tt (then_none tt (values_none field vs)))))))

fields_none : (fs : List Field) → HasNoBegin (fields_pieces fs)
unfolding fields_pieces
fields_none [] = nothing_none
fields_none (f ∷ fs) = both_none (values_none f.name f.values) (fields_none fs)

-- ---- `dylink.0`

sizes_none : (place : ℕ) (m : MemInfo) → HasNoBegin (sizes_pieces place m)
unfolding sizes_pieces
sizes_none place m =
    field_none (Some place) 2 (line_none (then_stay refl
    (both_stay (sizes_group_stays (codes "memory") m.memory_size m.memory_alignment) (both_stay (sizes_group_stays (codes "table") m.table_size m.table_alignment) (alone_stays refl)))))

names_none : (w : List ℕ) (place : ℕ) (ns : List (List ℕ)) → HasNoBegin (names_pieces w place ns)
unfolding names_pieces
names_none w place ns = field_none (Some place) 2 (line_none (then_stay refl (both_stay (quoted_list_stays ns) (alone_stays refl))))

exports_none : (place : ℕ) (es : List ExportInfo) → HasNoBegin (exports_pieces place es)
unfolding exports_pieces
exports_none place [] = nothing_none
exports_none place (e ∷ es) =
    field_none (Some place) 2 (then_none tt (then_none tt (both_none (line_none (flags_stay e.flags)) (then_none tt (exports_none place es)))))

imports_none : (place : ℕ) (is : List ImportInfo) → HasNoBegin (import_infos_pieces place is)
unfolding import_infos_pieces
imports_none place [] = nothing_none
imports_none place (i ∷ is) =
    field_none (Some place) 2
    (then_none tt (then_none tt (then_none tt (then_none tt (both_none (line_none (flags_stay i.flags)) (then_none tt (imports_none place is)))))))

content_none : (place : ℕ) (c : SubsectionContent) → HasNoBegin (content_pieces place c)
content_none place (Sizes m) = sizes_none place m
content_none place (Needed ns) = names_none (codes "needed") place ns
content_none place (Exports es) = exports_none place es
content_none place (Imports is) = imports_none place is
content_none place (Paths ps) = names_none (codes "runtime-path") place ps
content_none place (Other id) = nothing_none

subsections_none : (ss : List Subsection) → HasNoBegin (subsections_pieces ss)
unfolding subsections_pieces
subsections_none [] = nothing_none
subsections_none (s ∷ ss) = both_none (content_none s.place s.value) (subsections_none ss)

-- ---- parts

-- The pieces of a part, complete or up to a refusal
abbrev pub part_pieces : Part → List Piece
part_pieces (Shown ps) = ps
part_pieces (Stops ps id) = ps

abbrev pub HaveNoBegin : List Part → Type 0
HaveNoBegin parts = AllByRecursion (λ part. HasNoBegin (part_pieces part)) parts

pub parts_none : (xs ys : List Part) → HaveNoBegin xs → HaveNoBegin ys → HaveNoBegin (xs ++ ys)
parts_none xs ys h k = all_both (λ part. HasNoBegin (part_pieces part)) xs ys h k

treatment_none : (skeleton : Bool) (name : List ℕ) (place : ℕ) (bytes : List ℕ) (answer : Bool) (c : CustomEntry) (r : CustomTreatment) →
    HasNoBegin (part_pieces (treatment_part skeleton (Claimed name place bytes answer) c r))
treatment_none skeleton name place bytes answer c Silent = alone_none tt
treatment_none skeleton name place bytes answer c (ProducersFields fields) = then_none tt (then_none tt (note_none (codes "producers") (fields_none fields)))
treatment_none skeleton name place bytes answer c (DylinkSubsections ss) = then_none tt (then_none tt (note_none (codes "dylink.0") (subsections_none ss)))
treatment_none skeleton name place bytes answer c (Refused id) = alone_none tt
treatment_none skeleton name place bytes answer c Raw = then_none tt (raw_none skeleton c)
treatment_none skeleton name place bytes answer c Malformed = then_none tt (faulted_none skeleton c)

custom_none : (skeleton answer : Bool) (c : CustomEntry) → HasNoBegin (part_pieces (custom_part skeleton answer c))
custom_none skeleton true c = alone_none tt
custom_none skeleton false c =
    let s : Custom = c.section.value in treatment_none skeleton s.name s.bytes.place s.bytes.value false c (custom_treatment_of s)

if_none : (b : Bool) (part : Part) (parts : List Part) → HasNoBegin (part_pieces part) → HaveNoBegin parts → HaveNoBegin (if b then part ∷ parts else parts)
if_none true part parts h k = (h, k)
if_none false part parts h k = k

pub customs_none : (skeleton : Bool) (answers : Answers) (place : Option Kind) (n : ℕ) (cs : List CustomEntry) → HaveNoBegin (parts_at skeleton answers place n cs)
customs_none skeleton answers place n [] = tt
customs_none skeleton answers place n (c ∷ cs) =
    if_none (same_after c.after place) (custom_part skeleton (answers n) c) (parts_at skeleton answers place (n + 1) cs)
    (custom_none skeleton (answers n) c) (customs_none skeleton answers place (n + 1) cs)

-- If no part begins the first line, neither do the pieces of all parts up to a refusal.
pub laid_none : (parts : List Part) → HaveNoBegin parts → HasNoBegin (laid_parts parts).pieces
laid_none [] h = nothing_none
laid_none (Shown ps ∷ parts) h = both_none h.0 (laid_none parts h.1)
laid_none (Stops ps id ∷ parts) h = h.0
