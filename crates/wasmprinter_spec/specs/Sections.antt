-- Sections (section 5.5 of the standard, "Sections"): each has a kind and a content, which all the bytes of its
-- size encode. The definitions over the kinds are in this file, one line for each kind. How the content of a kind
-- is encoded is in a file of its own, in `Binary`.
use Rattle.std.specs.Prelude.{ℕ, List, [], ◌∷◌, Bool, true, false, ◌&&◌, nat_lt, if◌then◌else◌, Option, Some, None}
use Rattle.wasmprinter_spec.specs.Grammar.{Grammar, Remainder, byte, seq, map_value, try_map, Placed}
use Rattle.wasmprinter_spec.specs.Repeated.{some_or}
use Rattle.wasmprinter_spec.specs.Sized.{exactly}
use Rattle.wasmprinter_spec.specs.Name.{u32}
use Rattle.wasmprinter_spec.specs.Types.{MemoryType}
pub use Rattle.wasmprinter_spec.specs.Kinds.{Kind, CustomSection, TypeSection, ImportSection, FunctionSection, TableSection, MemorySection, TagSection, GlobalSection, ExportSection, StartSection, ElementSection, DataCountSection, CodeSection, DataSection}
use Rattle.wasmprinter_spec.specs.Operator.{Operator}
use Rattle.wasmprinter_spec.specs.Placed.{TypeGroup, Import, Table, Global, ElementEntry, Data, Body, Export, Custom, CustomEntry, custom_entry}
use Rattle.wasmprinter_spec.specs.Binary.ValTypes.{lookup}
use Rattle.wasmprinter_spec.specs.Binary.Types.{type_section}
use Rattle.wasmprinter_spec.specs.Binary.Imports.{import_section}
use Rattle.wasmprinter_spec.specs.Binary.Functions.{function_section}
use Rattle.wasmprinter_spec.specs.Binary.Tables.{table_section}
use Rattle.wasmprinter_spec.specs.Binary.Memories.{memory_section}
use Rattle.wasmprinter_spec.specs.Binary.Tags.{tag_section}
use Rattle.wasmprinter_spec.specs.Binary.Globals.{global_section}
use Rattle.wasmprinter_spec.specs.Binary.Exports.{export_section}
use Rattle.wasmprinter_spec.specs.Binary.Start.{start_section}
use Rattle.wasmprinter_spec.specs.Binary.Elements.{element_section}
use Rattle.wasmprinter_spec.specs.Binary.DataSegments.{data_count_section, data_section}
use Rattle.wasmprinter_spec.specs.Binary.Code.{code_section}
use Rattle.wasmprinter_spec.specs.Binary.Customs.{custom_section}

-- The kind of the sections with the id, or None if no kind has it.
abbrev pub kind_of : ℕ → Option Kind
kind_of id =
    lookup (
    (0, CustomSection) ∷ (1, TypeSection) ∷ (2, ImportSection) ∷ (3, FunctionSection) ∷ (4, TableSection) ∷ (5, MemorySection)
    ∷ (6, GlobalSection)
    ∷ (7, ExportSection) ∷ (8, StartSection) ∷ (9, ElementSection) ∷ (10, CodeSection) ∷ (11, DataSection)
    ∷ (12, DataCountSection) ∷ (13, TagSection) ∷ []) id

-- The position of each kind in the order type, import, function, table, memory, tag, global, export, start,
-- element, data count, code, data. Sections of a kind without a position may occur anywhere.
abbrev pub rank : Kind → Option ℕ
rank CustomSection = None
rank TypeSection = Some 1
rank ImportSection = Some 2
rank FunctionSection = Some 3
rank TableSection = Some 4
rank MemorySection = Some 5
rank TagSection = Some 6
rank GlobalSection = Some 7
rank ExportSection = Some 8
rank StartSection = Some 9
rank ElementSection = Some 10
rank DataCountSection = Some 11
rank CodeSection = Some 12
rank DataSection = Some 13

-- The type of the content of a section of the kind.
abbrev pub Content : Kind → Type 0
Content CustomSection = Placed Custom
Content TypeSection = List (Placed TypeGroup)
Content ImportSection = List (Placed Import)
Content FunctionSection = List ℕ
Content TableSection = List (Placed (Table (Placed Operator)))
Content MemorySection = List (Placed MemoryType)
Content TagSection = List (Placed ℕ)
Content GlobalSection = List (Placed (Global (Placed Operator)))
Content ExportSection = List (Placed Export)
Content StartSection = Option (Placed ℕ)
Content ElementSection = List (Placed ElementEntry)
Content DataCountSection = Option ℕ
Content CodeSection = List (Placed Body)
Content DataSection = List (Placed (Data (Placed Operator)))

-- How all the bytes of a section of the kind encode its content.
abbrev pub content : (kind : Kind) → Remainder (Content kind)
content CustomSection = custom_section
content TypeSection = type_section
content ImportSection = import_section
content FunctionSection = function_section
content TableSection = table_section
content MemorySection = memory_section
content TagSection = tag_section
content GlobalSection = global_section
content ExportSection = export_section
content StartSection = start_section
content ElementSection = element_section
content DataCountSection = data_count_section
content CodeSection = code_section
content DataSection = data_section

-- A section: a kind and its content.
pub data Section : Type 0 where
  holds : (kind : Kind) → Content kind → Section

-- The kind of the section.
abbrev pub section_kind : Section → Kind
section_kind (holds kind x) = kind

-- The content of the section if it is of this kind, otherwise None.
abbrev pub content_of : (kind : Kind) → Section → Option (Content kind)
content_of CustomSection (holds CustomSection x) = Some x
content_of TypeSection (holds TypeSection x) = Some x
content_of ImportSection (holds ImportSection x) = Some x
content_of FunctionSection (holds FunctionSection x) = Some x
content_of TableSection (holds TableSection x) = Some x
content_of MemorySection (holds MemorySection x) = Some x
content_of TagSection (holds TagSection x) = Some x
content_of GlobalSection (holds GlobalSection x) = Some x
content_of ExportSection (holds ExportSection x) = Some x
content_of StartSection (holds StartSection x) = Some x
content_of ElementSection (holds ElementSection x) = Some x
content_of DataCountSection (holds DataCountSection x) = Some x
content_of CodeSection (holds CodeSection x) = Some x
content_of DataSection (holds DataSection x) = Some x
content_of _ _ = None

-- An id, which must be that of a kind.
abbrev pub section_id : Grammar Kind
section_id = try_map kind_of byte

-- A section: an id, a size, and content that exactly that many bytes encode.
abbrev pub section : Grammar Section
section = map_value (λ x. x.1) (seq section_id (λ k. map_value (λ x. holds k x.1) (seq u32 (λ size. exactly (content k) size))))

-- ---- Sections in order

-- A section of rank r may follow sections whose last rank is `low`.
abbrev pub follows : ℕ → Option ℕ → Bool
follows low r = some_or r true (λ n. nat_lt low n)

-- The last rank after a section of rank r, if it was `low` before.
abbrev pub rank_after : ℕ → Option ℕ → ℕ
rank_after low r = some_or r low (λ n. n)

-- The sections are in order, and each kind that has a rank occurs at most once: the ranks are above `low` and
-- increase.
abbrev pub are_above : ℕ → List Section → Bool
are_above low [] = true
are_above low (s ∷ ss) = follows low (rank (section_kind s)) && are_above (rank_after low (rank (section_kind s))) ss

-- The content of the section of this kind, or `none` if there is no such section. (Each kind that has a rank
-- occurs at most once.)
abbrev pub content_in : (kind : Kind) → Content kind → List Section → Content kind
content_in kind none [] = none
content_in kind none (s ∷ ss) = content_in kind (some_or (content_of kind s) none (λ x. x)) ss

-- ---- Custom sections among the others

-- The list is not empty.
abbrev pub is_filled : {A : Type 0} → List A → Bool
is_filled [] = false
is_filled (x ∷ xs) = true

-- A custom section can be placed after this section: its content is a list that is not empty, or a start function.
-- (A data count is not a part of the module.)
abbrev pub has_fields : (kind : Kind) → Content kind → Bool
has_fields CustomSection x = false
has_fields TypeSection xs = is_filled xs
has_fields ImportSection xs = is_filled xs
has_fields FunctionSection xs = is_filled xs
has_fields TableSection xs = is_filled xs
has_fields MemorySection xs = is_filled xs
has_fields TagSection xs = is_filled xs
has_fields GlobalSection xs = is_filled xs
has_fields ExportSection xs = is_filled xs
has_fields StartSection x = true
has_fields ElementSection xs = is_filled xs
has_fields DataCountSection x = false
has_fields CodeSection xs = is_filled xs
has_fields DataSection xs = is_filled xs

-- The kind of the last section with fields after one more section, if it was `last` before.
abbrev pub kind_after : Option Kind → Section → Option Kind
kind_after last (holds kind x) = if has_fields kind x then Some kind else last

-- The custom section c, if there is one, and then the custom sections `cs`. `last` is the position of c (`after` of
-- `CustomEntry`).
abbrev pub with_custom : Option Kind → Option (Placed Custom) → List CustomEntry → List CustomEntry
with_custom last None cs = cs
with_custom last (Some c) cs = custom_entry last c ∷ cs

-- The custom sections in order, each with the kind of the last section with fields before it.
abbrev pub customs_after : Option Kind → List Section → List CustomEntry
customs_after last [] = []
customs_after last (s ∷ ss) = with_custom last (content_of CustomSection s) (customs_after (kind_after last s) ss)
