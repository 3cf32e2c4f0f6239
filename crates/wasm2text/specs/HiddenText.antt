-- The text of `--hidden`: a line for each finding in a module, which no text of the module shows.
use Rattle.std.specs.Prelude.{◌≡◌, ◌↔◌, ◌⊎◌, ℕ, List, ◌++◌, flat_map, codes, decimal, ◌==◌, nat_lt, if◌then◌else◌, false, Option, Some, None}
use Rattle.std.specs.Fmt.{digits}
use Rattle.wasmprinter_bytes.specs.declared.library_error.Error.{Error}
use Rattle.wasmprinter_bytes.specs.declared.library_error.Error.TheVariants.{Component, Memory}
use Rattle.wasmprinter_spec.specs.Binary.{IsComponent}
use Rattle.wasmprinter_spec.specs.Sections.{Kind, CustomSection, TypeSection, ImportSection, FunctionSection, TableSection, MemorySection, TagSection, GlobalSection, ExportSection, StartSection, ElementSection, DataCountSection, CodeSection, DataSection, kind_of}
use Rattle.wasmprinter_spec.specs.Names.Section.{tag_subsection}
use Rattle.wasmprinter_decoder.specs.Decoding.{HasDecodingReason}
use Rattle.wasmprinter_hidden.specs.Hidden.{AreHidden}
use Rattle.wasmprinter_hidden.specs.declared.finding.Finding.{Finding}
use Rattle.wasmprinter_hidden.specs.declared.finding.Part.{Part}
use Rattle.wasmprinter_hidden.specs.declared.finding.Part.TheVariants.{Section, SectionSize, Count, Contents, Entry, CustomName, EmptyCustom, CustomData, BodySize, LocalCount, LocalGroup, Instruction, NameSubsection, NameSubsectionSize, NameCount, NameOwner, OwnerWithoutNames, Name, NameOfNothing, ReplacedName, UnreadNames, MissingNames, Hint, HintSection}
use Rattle.wasm2text.specs.declared.cause.Cause.{Cause}
use Rattle.wasm2text.specs.declared.cause.Cause.TheVariants.{Module}

-- ---- A line

-- The name of a kind of sections. A line for each kind.
abbrev pub kind_word : Option Kind → List ℕ
kind_word None = codes "unknown"
kind_word (Some CustomSection) = codes "custom"
kind_word (Some TypeSection) = codes "type"
kind_word (Some ImportSection) = codes "import"
kind_word (Some FunctionSection) = codes "function"
kind_word (Some TableSection) = codes "table"
kind_word (Some MemorySection) = codes "memory"
kind_word (Some TagSection) = codes "tag"
kind_word (Some GlobalSection) = codes "global"
kind_word (Some ExportSection) = codes "export"
kind_word (Some StartSection) = codes "start"
kind_word (Some ElementSection) = codes "element"
kind_word (Some DataCountSection) = codes "data count"
kind_word (Some CodeSection) = codes "code"
kind_word (Some DataSection) = codes "data"

-- The section with this id, in words.
abbrev pub section_text : ℕ → List ℕ
section_text id = kind_word (kind_of id) ++ codes " section"

-- The count of the section with this id, in words. In the code section, it is one part with the size of the first body.
abbrev pub count_text : ℕ → List ℕ
count_text id = (if id == 10 then codes "count and first size of the " else codes "count of the ") ++ section_text id

-- The subsection of a name section with this id, in words. It gives no names: its id is unknown, or its list is empty.
abbrev pub subsection_text : ℕ → List ℕ
subsection_text id =
    (if nat_lt tag_subsection id then codes "unknown subsection " else codes "empty subsection ") ++ (decimal id ++ codes " of a name section")

-- A part of a module, in words.
abbrev pub part_text : Part → List ℕ
part_text (Section id) = codes "empty " ++ section_text id
part_text (SectionSize id) = codes "size of the " ++ section_text id
part_text (Count id) = count_text id
part_text (Contents id) = codes "contents of the " ++ section_text id
part_text (Entry id) = codes "entry of the " ++ section_text id
part_text CustomName = codes "name of a custom section"
part_text EmptyCustom = codes "empty custom section"
part_text CustomData = codes "data of a custom section"
part_text BodySize = codes "size of a function body"
part_text LocalCount = codes "count of groups of locals"
part_text LocalGroup = codes "group of locals"
part_text Instruction = codes "instruction"
part_text (NameSubsection id) = subsection_text id
part_text (NameSubsectionSize id) = codes "size of subsection " ++ (decimal id ++ codes " of a name section")
part_text NameCount = codes "count of names"
part_text NameOwner = codes "index of a function or type with names"
part_text OwnerWithoutNames = codes "function or type without names"
part_text Name = codes "name"
part_text NameOfNothing = codes "name of nothing"
part_text ReplacedName = codes "replaced name"
part_text UnreadNames = codes "unread bytes of a name section"
part_text MissingNames = codes "missing names"
part_text Hint = codes "unused branch hint"
part_text HintSection = codes "malformed or replaced branch hints"

-- The line of a finding: its place in hexadecimal, the part, and the number of bytes in decimal.
abbrev pub finding_line : Finding → List ℕ
finding_line f =
    codes "0x" ++ (digits 16 false f.place ++ (codes ": " ++ (part_text f.part ++ (codes ", extra bytes: " ++ (decimal f.extra ++ codes "\n")))))

-- ---- The text of a module

-- The bytes encode a module, and the text has a line for each finding in it, in order.
abbrev pub IsHiddenText : List ℕ → List ℕ → Type 0
IsHiddenText wasm text = (found : List Finding) × AreHidden wasm found × (text ≡ flat_map finding_line found)

-- The bytes are refused with this error: an allocation failed, or it is an error of decoding.
pub record AreUndecoded (wasm : List ℕ) (error : Error) : Type 0 where
  -- An allocation may fail for any bytes. An error of decoding is true of the bytes.
  pub refused : (error ≡ Memory) ⊎ HasDecodingReason wasm error
  -- The error is `Component` if and only if the bytes are marked as a component.
  pub component : (error ≡ Component) ↔ IsComponent wasm

-- There is no such text, for this cause: the module can't be decoded, or an allocation failed.
abbrev pub IsHiddenRefusal : List ℕ → Cause → Type 0
IsHiddenRefusal wasm (Module error) = AreUndecoded wasm error
IsHiddenRefusal wasm cause = ⊥
