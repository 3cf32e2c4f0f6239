-- Custom sections in the text format (custom annotations, appendix of the standard): `(@custom "name" (before
-- first) "bytes")`, or `(after ..)` one of the other sections. An annotation without such a group, or with another one,
-- is an abbreviation that is not read.
use Rattle.std.specs.Prelude.{ℕ, List, [], ◌∷◌, codes, bytes_eq, Option, Some, None, if◌then◌else◌, option_map}
use Rattle.std.specs.Str.{is_utf8}
use Rattle.wasmprinter_spec.specs.Grammar.{◌>>=◌}
use Rattle.wasmprinter_spec.specs.Forest.{Forest, Word, String, Group}
use Rattle.wasmprinter_spec.specs.Kinds.{Kind, TypeSection, ImportSection, FunctionSection, TableSection, MemorySection, TagSection, GlobalSection, ExportSection, StartSection, ElementSection, CodeSection, DataSection}
use Rattle.wasmprinter_spec.specs.Customs.{RawCustom}
use Rattle.wasmprinter_spec.specs.Text.Items.{lookup, one_word}
use Rattle.wasmprinter_spec.specs.Text.DataSegments.{strings}

-- The kind of a section by its word, or `None` for any other word.
unfoldable pub section_of_word : List ℕ → Option Kind
section_of_word w =
    lookup (
    (codes "type", TypeSection) ∷ (codes "import", ImportSection) ∷ (codes "func", FunctionSection) ∷ (codes "table", TableSection)
    ∷ (codes "memory", MemorySection) ∷ (codes "tag", TagSection) ∷ (codes "global", GlobalSection) ∷ (codes "export", ExportSection)
    ∷ (codes "start", StartSection) ∷ (codes "elem", ElementSection) ∷ (codes "code", CodeSection) ∷ (codes "data", DataSection) ∷ []) w

-- The position before all other sections, if the word is `first`.
abbrev pub first_word : List ℕ → Option (Option Kind)
first_word w = if bytes_eq w (codes "first") then Some None else None

-- The position after the sections of the kind with this word.
abbrev pub kind_word : List ℕ → Option (Option Kind)
kind_word w = option_map Some (section_of_word w)

-- After which kind of section the section occurs.
abbrev pub custom_after : Forest → Option (Option Kind)
custom_after (Word w f) =
    if bytes_eq w (codes "before") then one_word first_word f else (if bytes_eq w (codes "after") then one_word kind_word f else None)
custom_after f = None

-- A custom section, by the content of its annotation: a name, which must be UTF-8, a position, and strings.
abbrev pub read_custom : Forest → Option RawCustom
read_custom (String n (Group p f)) =
    if is_utf8 n then (custom_after p >>= λ k. strings f >>= λ bs. Some (record { after = k; name = n; bytes = bs })) else None
read_custom f = None
