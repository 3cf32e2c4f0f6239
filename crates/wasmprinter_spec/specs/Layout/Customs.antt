-- The layout of custom sections: raw ones as annotations `(@custom ..)` (custom annotations, appendix of the
-- standard), `producers` and `dylink.0` in lines of their own (tool conventions). Before each, the printer is
-- asked whether it claims the section.
use Rattle.std.specs.Prelude.{ℕ, ◌+◌, ◌-◌, ◌/◌, ◌%◌, ◌==◌, ◌&&◌, List, [], ◌∷◌, ◌++◌, Bool, true, false, codes, chars, decimal, cond, Option, Some, None, if◌then◌else◌}
use Rattle.std.specs.Fmt.{digits}
use Rattle.wasmprinter_spec.specs.Grammar.{Placed}
use Rattle.wasmprinter_spec.specs.Kinds.{Kind, TypeSection, ImportSection, FunctionSection, TableSection, MemorySection, TagSection, GlobalSection, ExportSection, StartSection, ElementSection, CodeSection, DataSection, same_kind}
use Rattle.wasmprinter_spec.specs.Placed.{Custom, CustomEntry}
use Rattle.wasmprinter_spec.specs.Customs.{CustomTreatment, Silent, ProducersFields, DylinkSubsections, Refused, Raw, Malformed, custom_treatment_of}
use Rattle.wasmprinter_spec.specs.Customs.Producers.{Value, Field}
use Rattle.wasmprinter_spec.specs.Customs.Dylink.{MemInfo, ExportInfo, ImportInfo, SubsectionContent, Sizes, Needed, Exports, Imports, Paths, Other, Subsection}
use Rattle.wasmprinter_spec.specs.Options.{Answers}
use Rattle.wasmprinter_spec.specs.Piece.{Piece, Break, OneSpace, Open, OpenSpace, OpenPlain, OpenAnnotation, OpenAnnotationSpace, OpenAnnotationWord, CloseParen, Word, Quoted, PlainLineComment, Claimed}
use Rattle.wasmprinter_spec.specs.Layout.Groups.{close, has_break}
use Rattle.wasmprinter_spec.specs.Layout.DataSegments.{shown_bytes}

-- ---- Raw sections

-- The word of the kind in a position `(after ..)`, empty for kinds that are no position.
abbrev pub section_word : Kind → List ℕ
section_word TypeSection = codes "type"
section_word ImportSection = codes "import"
section_word FunctionSection = codes "func"
section_word TableSection = codes "table"
section_word MemorySection = codes "memory"
section_word TagSection = codes "tag"
section_word GlobalSection = codes "global"
section_word ExportSection = codes "export"
section_word StartSection = codes "start"
section_word ElementSection = codes "elem"
section_word CodeSection = codes "code"
section_word DataSection = codes "data"
section_word _ = []

-- A group of two words.
abbrev pub two_words : List ℕ → List ℕ → List Piece
two_words v w = OpenPlain v ∷ (OneSpace ∷ (Word w ∷ (CloseParen ∷ [])))

-- After which kind of section the section occurs.
unfoldable pub after_pieces : Option Kind → List Piece
after_pieces None = two_words (codes "before") (codes "first")
after_pieces (Some kind) = two_words (codes "after") (section_word kind)

-- A custom section as raw bytes, in a line of its own. The first argument, here and below, says whether the text is a
-- skeleton, which has `...` in place of the bytes.
unfoldable pub raw_pieces : Bool → CustomEntry → List Piece
raw_pieces skeleton c =
    let s : Custom = c.section.value in
    Break (Some c.section.place) 1
    ∷ (OpenAnnotationSpace (codes "custom") ∷ (Quoted (chars s.name) ∷ (OneSpace ∷ (after_pieces c.after
    ++ (OneSpace ∷ (shown_bytes skeleton s.bytes.value ++ (CloseParen ∷ [])))))))

-- The line that reports the error, and the section as raw bytes.
unfoldable pub malformed_pieces : Bool → CustomEntry → List Piece
malformed_pieces skeleton c =
    Break (Some c.section.value.bytes.place) 1
    ∷ (PlainLineComment (codes "failed to parse custom section `" ++ (c.section.value.name ++ codes "`")) ∷ raw_pieces skeleton c)

-- ---- Lines of an annotation

-- An annotation with the name w, whose lines are nested like those of a group.
abbrev pub note : List ℕ → List Piece → List Piece
note w ps = OpenAnnotation w ∷ (ps ++ close None 1 (has_break ps))

-- A space and a quoted string.
abbrev pub space_quoted : List ℕ → List Piece
space_quoted s = OneSpace ∷ (Quoted (chars s) ∷ [])

-- Quoted strings, with a space before each.
unfoldable pub space_quoted_list : List (List ℕ) → List Piece
space_quoted_list [] = []
space_quoted_list (s ∷ ss) = space_quoted s ++ space_quoted_list ss

-- ---- `producers`

-- The values of the field with this name, each on a line of its own.
unfoldable pub values_pieces : List ℕ → List (Placed Value) → List Piece
values_pieces field [] = []
values_pieces field (v ∷ vs) =
    Break (Some v.place) 2 ∷ (OpenAnnotationWord field ∷ (space_quoted v.value.name ++ (space_quoted v.value.version ++ (CloseParen ∷ values_pieces field vs))))

-- The values of all fields.
unfoldable pub fields_pieces : List Field → List Piece
fields_pieces [] = []
fields_pieces (f ∷ fs) = values_pieces f.name f.values ++ fields_pieces fs

-- ---- `dylink.0`

-- The words of flags, by their bits.
abbrev pub flag_words : List (ℕ × List ℕ)
flag_words =
    (0x1, codes "binding-weak") ∷ (0x2, codes "binding-local") ∷ (0x4, codes "visibility-hidden")
    ∷ (0x10, codes "undefined") ∷ (0x20, codes "exported") ∷ (0x40, codes "explicit-name")
    ∷ (0x80, codes "no-strip") ∷ (0x100, codes "tls") ∷ (0x200, codes "absolute") ∷ []

-- The bit is set in the flags.
abbrev pub has_flag : ℕ → ℕ → Bool
has_flag flags bit = ((flags / bit) % 2) == 1

-- The words of the flags that are set, and then all other bits in hexadecimal, if any are set.
unfoldable pub flags_by : List (ℕ × List ℕ) → ℕ → List Piece
flags_by [] rest = cond (rest == 0) [] (OneSpace ∷ (Word (codes "0x" ++ digits 16 false rest) ∷ []))
flags_by (row ∷ rows) rest =
    if has_flag rest row.0 then OneSpace ∷ (Word row.1 ∷ flags_by rows (rest - row.0)) else flags_by rows rest

-- The words of flags.
unfoldable pub flags_pieces : ℕ → List Piece
flags_pieces flags = flags_by flag_words flags

-- A space and two numbers in a group with the word w, unless both are 0.
unfoldable pub sizes_group : List ℕ → ℕ → ℕ → List Piece
sizes_group w a b =
    cond ((a == 0) && (b == 0)) [] (OneSpace ∷ (OpenPlain w ∷ (OneSpace ∷ (Word (decimal a) ∷ (OneSpace ∷ (Word (decimal b) ∷ (CloseParen ∷ [])))))))

-- The line of the memory and the table space. The first argument is the place of the subsection, here and below.
unfoldable pub sizes_pieces : ℕ → MemInfo → List Piece
sizes_pieces place m =
    Break (Some place) 2
    ∷ (Open (codes "mem-info") ∷ (sizes_group (codes "memory") m.memory_size m.memory_alignment
    ++ (sizes_group (codes "table") m.table_size m.table_alignment ++ (CloseParen ∷ []))))

-- A line of quoted names after the word w.
unfoldable pub names_pieces : List ℕ → ℕ → List (List ℕ) → List Piece
names_pieces w place ns = Break (Some place) 2 ∷ (Open w ∷ (space_quoted_list ns ++ (CloseParen ∷ [])))

-- The exported symbols with their flags, each on a line of its own.
unfoldable pub exports_pieces : ℕ → List ExportInfo → List Piece
exports_pieces place [] = []
exports_pieces place (e ∷ es) =
    Break (Some place) 2
    ∷ (OpenSpace (codes "export-info") ∷ (Quoted (chars e.name) ∷ (flags_pieces e.flags ++ (CloseParen ∷ exports_pieces place es))))

-- The imported symbols with their flags, each on a line of its own.
unfoldable pub import_infos_pieces : ℕ → List ImportInfo → List Piece
import_infos_pieces place [] = []
import_infos_pieces place (i ∷ is) =
    Break (Some place) 2
    ∷ (OpenSpace (codes "import-info") ∷ (Quoted (chars i.source) ∷ (OneSpace ∷ (Quoted (chars i.name)
    ∷ (flags_pieces i.flags ++ (CloseParen ∷ import_infos_pieces place is))))))

-- The lines of a subsection. All of them have the place of its id.
abbrev pub content_pieces : ℕ → SubsectionContent → List Piece
content_pieces place (Sizes m) = sizes_pieces place m
content_pieces place (Needed ns) = names_pieces (codes "needed") place ns
content_pieces place (Exports es) = exports_pieces place es
content_pieces place (Imports is) = import_infos_pieces place is
content_pieces place (Paths ps) = names_pieces (codes "runtime-path") place ps
content_pieces place (Other id) = []

-- The lines of all subsections.
unfoldable pub subsections_pieces : List Subsection → List Piece
subsections_pieces [] = []
subsections_pieces (s ∷ ss) = content_pieces s.place s.value ++ subsections_pieces ss

-- ---- Each section

-- Pieces that are printed; or pieces after which the layout ends, with the unknown id for which a section is refused.
pub data Part : Type 0 where
  Shown : List Piece → Part
  Stops : List Piece → ℕ → Part

-- A custom section that the printer does not claim, by its treatment. `claim` is the piece that asks whether the printer
-- claims it.
abbrev pub treatment_part : Bool → Piece → CustomEntry → CustomTreatment → Part
treatment_part skeleton claim c Silent = Shown (claim ∷ [])
treatment_part skeleton claim c (ProducersFields fields) =
    Shown (claim ∷ (Break (Some c.section.place) 1 ∷ note (codes "producers") (fields_pieces fields)))
treatment_part skeleton claim c (DylinkSubsections ss) = Shown (claim ∷ (Break (Some c.section.place) 1 ∷ note (codes "dylink.0") (subsections_pieces ss)))
treatment_part skeleton claim c (Refused id) = Stops (claim ∷ []) id
treatment_part skeleton claim c Raw = Shown (claim ∷ raw_pieces skeleton c)
treatment_part skeleton claim c Malformed = Shown (claim ∷ malformed_pieces skeleton c)

-- A custom section, with the answer to its claim. A claimed section is neither printed nor checked. The first argument
-- says whether the text is a skeleton, here and below.
abbrev pub custom_part : Bool → Bool → CustomEntry → Part
custom_part skeleton answer c =
    let s : Custom = c.section.value in
    let claim : Piece = Claimed s.name s.bytes.place s.bytes.value answer in
    if answer then Shown (claim ∷ []) else treatment_part skeleton claim c (custom_treatment_of s)

-- The two positions among the other sections are equal.
abbrev pub same_after : Option Kind → Option Kind → Bool
same_after None None = true
same_after (Some j) (Some k) = same_kind j k
same_after _ _ = false

-- The custom sections after one kind of section (`after`), or before all others for `None`. Answers are by the number
-- of a section among all custom sections; the first of these sections has the number n.
abbrev pub parts_at : Bool → Answers → Option Kind → ℕ → List CustomEntry → List Part
parts_at skeleton answers after n [] = []
parts_at skeleton answers after n (c ∷ cs) =
    if same_after c.after after then custom_part skeleton (answers n) c ∷ parts_at skeleton answers after (n + 1) cs
    else parts_at skeleton answers after (n + 1) cs

-- ---- Up to a refusal

-- The pieces up to the first refusal, and the id for which the section is refused.
pub record Laid : Type 0 where
  pub pieces : List Piece
  pub refused : Option ℕ

-- Pieces, and then those up to the first refusal.
abbrev pub before_laid : List Piece → Laid → Laid
before_laid ps l = record l { pieces = ps ++ l.pieces }

-- The pieces of parts up to the first refusal.
abbrev pub laid_parts : List Part → Laid
laid_parts [] = record { pieces = []; refused = None }
laid_parts (Shown ps ∷ parts) = before_laid ps (laid_parts parts)
laid_parts (Stops ps id ∷ parts) = record { pieces = ps; refused = Some id }
