-- What the text of a module does not show: bytes that a shorter encoding of the same module does not have, sections without
-- entries, names of nothing, names that are replaced, and hints that no operator takes. Parts are compared one by one, and the
-- data of `producers`, `dylink.0` and branch hints as a whole. These are not among it: how locals are grouped, and the data
-- count; of custom sections, the order of names, equal names that an item is given more than once, how names, fields and symbols
-- are divided into lists and sections, the places of sections that are not printed as such, the number of missing names, and the
-- function or type of names of nothing and of unused hints.
use Rattle.std.specs.Prelude.{◌≡◌, ℕ, ◌+◌, ◌-◌, List, [], ◌∷◌, ◌++◌, length, map, drop, ◌==◌, Bool, false, if◌then◌else◌, codes, bytes_eq, Option, Some, None}
use Rattle.wasmprinter_spec.specs.Grammar.{Input, input, Spans, Placed}
use Rattle.wasmprinter_spec.specs.Placed.{PlacedModule, PlacedFunction, LocalEntry, Body, Custom, CustomEntry}
use Rattle.wasmprinter_spec.specs.Binary.{Spells, preamble_bytes}
use Rattle.wasmprinter_spec.specs.Sections.{kind_of, Kind, CustomSection, TypeSection, ImportSection, FunctionSection, TableSection, MemorySection, TagSection, GlobalSection, ExportSection, StartSection, ElementSection, DataCountSection, CodeSection, DataSection}
use Rattle.wasmprinter_spec.specs.Customs.{name_section, custom_treatment_of}
use Rattle.wasmprinter_hidden.specs.Findings.{any_section, finding, if_longer}
use Rattle.wasmprinter_hidden.specs.HiddenNames.{in_names}
use Rattle.wasmprinter_hidden.specs.HiddenHints.{in_hints, gives_no_hints}
use Rattle.wasmprinter_hidden.specs.HiddenData.{in_treatment, is_empty}
use Rattle.wasmprinter_hidden.specs.Lengths.{unsigned_len, list_len, bytes_len, group_len, memory_type_len, tag_len, import_len, export_len, table_len, global_len, element_len, data_len, local_entry_len, operator_len}
use Rattle.wasmprinter_hidden.specs.declared.finding.Part.{Part}
use Rattle.wasmprinter_hidden.specs.declared.finding.Part.TheVariants.{Section, SectionSize, Count, Contents, Entry, CustomName, EmptyCustom, BodySize, LocalCount, LocalGroup, Instruction}
use Rattle.wasmprinter_hidden.specs.declared.finding.Finding.{Finding}

-- ---- The sections as they follow each other (section 5.5 of the standard, "Sections")

-- The extent of a section: the place of its id, the id, the place of its contents, and the place after them.
pub record Extent : Type 0 where
  pub place : ℕ
  pub id : ℕ
  pub contents : ℕ
  pub end : ℕ

-- The extent with these fields.
abbrev pub extent : ℕ → ℕ → ℕ → ℕ → Extent
extent place id contents end = record { place = place; id = id; contents = contents; end = end }

-- The bytes from the first position up to the second encode a section with this id, whose contents start at this place.
abbrev pub IsSection : Input → Input → ℕ → ℕ → Type 0
IsSection at after id contents = (bytes : List ℕ) × Spans any_section.spells at ((id, record { place = contents; value = bytes }), after)

-- Sections with these extents follow each other from this position up to the end of the bytes.
pub data AreExtents : Input → List Extent → Type 0 where
  none : {place : ℕ} → AreExtents (input place []) []
  next : {at after : Input} {id contents : ℕ} {rest : List Extent} → IsSection at after id contents → AreExtents after rest
      → AreExtents at (extent at.place id contents after.place ∷ rest)

-- The bytes are the preamble of a module, and sections with these extents.
abbrev pub HaveExtents : List ℕ → List Extent → Type 0
HaveExtents wasm extents = (sections : List ℕ) × (wasm ≡ preamble_bytes ++ sections) × AreExtents (input (length preamble_bytes) sections) extents

-- ---- In items

-- The place of the first item, or `end` if there is none.
abbrev pub first_place : {A : Type 0} → List (Placed A) → ℕ → ℕ
first_place [] end = end
first_place (x ∷ xs) end = x.place

-- The findings in items that follow each other up to the place `end`, by the lengths of their shortest encodings.
abbrev pub in_items : {A : Type 0} → Part → (A → ℕ) → List (Placed A) → ℕ → List Finding
in_items part len [] end = []
in_items part len (x ∷ xs) end = if_longer part x.place (first_place xs end) (len x.value) ++ in_items part len xs end

-- The findings in a list: in its count, and in its items.
abbrev pub in_list : {A : Type 0} → Part → Part → (A → ℕ) → List (Placed A) → ℕ → ℕ → List Finding
in_list count part len xs start end = if_longer count start (first_place xs end) (unsigned_len (length xs)) ++ in_items part len xs end

-- ---- In the code section

-- The place after the body.
abbrev pub body_end : PlacedFunction → ℕ
body_end f = f.body.value.end + 1

-- The number of bytes of the body, which the section encodes before it.
abbrev pub body_size : PlacedFunction → ℕ
body_size f = body_end f - f.body.place

-- The number of bytes of the shortest encoding of a group of locals. A text shows nothing of a group without locals.
abbrev pub shown_group_len : LocalEntry → ℕ
shown_group_len e = if e.count == 0 then 0 else local_entry_len e

-- The findings in a body: in the groups of its locals, and in its operators.
abbrev pub in_body : Placed Body → List Finding
in_body b =
    in_list LocalCount LocalGroup shown_group_len b.value.locals b.place (first_place b.value.operators b.value.end)
    ++ in_items Instruction operator_len b.value.operators b.value.end

-- The findings in bodies that follow each other from this place on, each after its size.
abbrev pub in_bodies : ℕ → List PlacedFunction → List Finding
in_bodies start [] = []
in_bodies start (f ∷ fs) =
    if_longer BodySize start f.body.place (unsigned_len (body_size f)) ++ (in_body f.body ++ in_bodies (body_end f) fs)

-- ---- In a section

-- The findings in the number that encodes the size of the section.
abbrev pub in_size : Extent → List Finding
in_size x = if_longer (SectionSize x.id) (x.place + 1) x.contents (unsigned_len (x.end - x.contents))

-- The findings in a section whose contents are one part. `len` is the length of their shortest encoding.
abbrev pub in_contents : Extent → ℕ → List Finding
in_contents x len = in_size x ++ if_longer (Contents x.id) x.contents x.end len

-- The section has no entries. It is hidden as a whole.
abbrev pub empty_section : Extent → List Finding
empty_section x = finding x.place (Section x.id) (x.end - x.place) ∷ []

-- The findings in a section that is a list of these entries.
abbrev pub in_entries : {A : Type 0} → (A → ℕ) → List (Placed A) → Extent → List Finding
in_entries len [] x = empty_section x
in_entries len (e ∷ es) x = in_size x ++ in_list (Count x.id) (Entry x.id) len (e ∷ es) x.contents x.end

-- The findings in the function section, which is a list of the indices of the functions' types.
abbrev pub in_function_section : List PlacedFunction → Extent → List Finding
in_function_section [] x = empty_section x
in_function_section (f ∷ fs) x = in_contents x (list_len unsigned_len (map (λ g. g.type_index) (f ∷ fs)))

-- The findings in the code section. Its count and the size of the first body are one part.
abbrev pub in_code_section : List PlacedFunction → Extent → List Finding
in_code_section [] x = empty_section x
in_code_section (f ∷ fs) x =
    in_size x ++ (if_longer (Count x.id) x.contents f.body.place (unsigned_len (length (f ∷ fs)) + unsigned_len (body_size f))
    ++ (in_body f.body ++ in_bodies (body_end f) fs))

-- The findings in the start section, which is the index of this function.
abbrev pub in_start_section : Option (Placed ℕ) → Extent → List Finding
in_start_section None x = []
in_start_section (Some start) x = in_contents x (unsigned_len start.value)

-- The findings in a section of this kind of the module. A line for each kind.
abbrev pub in_section : PlacedModule → Option Kind → Extent → List Finding
in_section m None x = []
in_section m (Some CustomSection) x = in_size x
in_section m (Some TypeSection) x = in_entries group_len m.types x
in_section m (Some ImportSection) x = in_entries import_len m.imports x
in_section m (Some FunctionSection) x = in_function_section m.functions x
in_section m (Some TableSection) x = in_entries table_len m.tables x
in_section m (Some MemorySection) x = in_entries memory_type_len m.memories x
in_section m (Some TagSection) x = in_entries tag_len m.tags x
in_section m (Some GlobalSection) x = in_entries global_len m.globals x
in_section m (Some ExportSection) x = in_entries export_len m.exports x
in_section m (Some StartSection) x = in_start_section m.start x
in_section m (Some ElementSection) x = in_entries element_len m.elements x
in_section m (Some DataCountSection) x = in_contents x (unsigned_len (length m.data_segments))
in_section m (Some CodeSection) x = in_code_section m.functions x
in_section m (Some DataSection) x = in_entries data_len m.data_segments x

-- ---- In all sections

-- The findings in the data of a custom section, by its name. `later` are the custom sections after it.
abbrev pub in_data : PlacedModule → List CustomEntry → Custom → List Finding
in_data m later c =
    if bytes_eq c.name name_section then in_names m c.bytes
    else if bytes_eq c.name (codes "metadata.code.branch_hint") then in_hints m later c.bytes
    else in_treatment c.bytes (custom_treatment_of c)

-- The section is a name section without data, or a section with branch hints without data or whose entries have no hints.
abbrev pub is_empty_custom : Custom → Bool
is_empty_custom c =
    if bytes_eq c.name name_section then is_empty c.bytes.value
    else if bytes_eq c.name (codes "metadata.code.branch_hint") then gives_no_hints c.bytes
    else false

-- The findings in a custom section: the whole section from its name on if it is empty, otherwise those in its name and in its
-- data.
abbrev pub in_custom_section : PlacedModule → List CustomEntry → Placed Custom → List Finding
in_custom_section m later c =
    if is_empty_custom c.value then finding c.place EmptyCustom (c.value.bytes.place + length c.value.bytes.value - c.place) ∷ []
    else if_longer CustomName c.place c.value.bytes.place (bytes_len c.value.name) ++ in_data m later c.value

-- The findings in the first of these custom sections.
abbrev pub in_first_custom : PlacedModule → List CustomEntry → List Finding
in_first_custom m [] = []
in_first_custom m (c ∷ cs) = in_custom_section m cs c.section

-- The findings in sections that follow each other. Their custom sections are the first of these.
abbrev pub in_sections : PlacedModule → List CustomEntry → List Extent → List Finding
in_sections m customs [] = []
in_sections m customs (x ∷ xs) =
    in_section m (kind_of x.id) x
    ++ (if x.id == 0 then in_first_custom m customs ++ in_sections m (drop 1 customs) xs else in_sections m customs xs)

-- The bytes encode a module, and these are the findings in its sections.
pub record AreHidden (wasm : List ℕ) (found : List Finding) : Type 0 where
  pub placed : PlacedModule
  pub spells : Spells wasm placed
  pub extents : List Extent
  pub have : HaveExtents wasm extents
  pub are : found ≡ in_sections placed placed.customs extents
