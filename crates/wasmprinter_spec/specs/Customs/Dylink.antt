-- The section `dylink.0` (tool conventions, "Dynamic Linking"): subsections, each an id, a size and that many
-- bytes.
use Rattle.std.specs.Prelude.{ℕ, List, [], ◌∷◌, Bool, ◌||◌, ◌==◌, length, Option, Some, None}
use Rattle.wasmprinter_spec.specs.Grammar.{Input, Grammar, Placed, value_with_place, byte, seq, map_value, choose}
use Rattle.wasmprinter_spec.specs.Sized.{take_bytes, alone, exactly}
use Rattle.wasmprinter_spec.specs.Name.{u32, vec, name}
use Rattle.wasmprinter_spec.specs.Lenient.{Lenient, one, repeat, unless_ended}

-- The memory and the table space that a module needs: sizes in bytes and in elements, and the exponents of alignments,
-- which are powers of two.
pub record MemInfo : Type 0 where
  pub memory_size : ℕ
  pub memory_alignment : ℕ
  pub table_size : ℕ
  pub table_alignment : ℕ

-- An exported symbol: its name and its flags.
pub record ExportInfo : Type 0 where
  pub name : List ℕ
  pub flags : ℕ

-- An imported symbol: the name of its module, its name in that module, and its flags.
pub record ImportInfo : Type 0 where
  pub source : List ℕ
  pub name : List ℕ
  pub flags : ℕ

-- The content of a subsection: memory and table space (id 1), names of needed libraries (id 2), export flags (id 3),
-- import flags (id 4), and paths where libraries are searched at run time (id 5).
pub data SubsectionContent : Type 0 where
  Sizes : MemInfo → SubsectionContent
  Needed : List (List ℕ) → SubsectionContent
  Exports : List ExportInfo → SubsectionContent
  Imports : List ImportInfo → SubsectionContent
  Paths : List (List ℕ) → SubsectionContent
  Other : ℕ → SubsectionContent  -- with an unknown id

-- A subsection, with the place of its id.
abbrev pub Subsection : Type 0
Subsection = Placed SubsectionContent

-- The memory and the table space: four numbers.
abbrev pub mem_info : Grammar MemInfo
mem_info =
    map_value (λ (memory_size, (memory_alignment, (table_size, table_alignment))). record {
      memory_size = memory_size;
      memory_alignment = memory_alignment;
      table_size = table_size;
      table_alignment = table_alignment;
    })
    (seq u32 (λ _. seq u32 (λ _. seq u32 (λ _. u32))))

-- A name and flags.
abbrev pub export_info : Grammar ExportInfo
export_info = map_value (λ x. record { name = x.0; flags = x.1 }) (seq name (λ _. u32))

-- The name of the module, the name in it, and flags.
abbrev pub import_info : Grammar ImportInfo
import_info =
    map_value (λ (source, (name, flags)). record { source = source; name = name; flags = flags }) (seq name (λ _. seq name (λ _. u32)))

-- The content of a subsection with a known id.
abbrev pub content_by_id : ℕ → Grammar SubsectionContent
content_by_id id =
    choose (id == 1) (map_value Sizes mem_info)
    (choose (id == 2) (map_value Needed (vec name))
    (choose (id == 3) (map_value Exports (vec export_info))
    (choose (id == 4) (map_value Imports (vec import_info))
    (map_value Paths (vec name)))))

-- The id is that of a known subsection.
abbrev pub is_known : ℕ → Bool
is_known id = (id == 1) || (id == 2) || (id == 3) || (id == 4) || (id == 5)

-- The content of `size` bytes: with a known id exactly the content of that id, with any other id any bytes.
abbrev pub content : ℕ → ℕ → Grammar SubsectionContent
content id size = choose (is_known id) (exactly (alone (content_by_id id)) size) (map_value (λ _. Other id) (take_bytes size))

-- A subsection: an id, a size, and content of that many bytes.
abbrev pub subsection : Grammar Subsection
subsection = value_with_place (map_value (λ (_, (_, found)). found) (seq byte (λ id. seq u32 (λ size. content id size))))

-- A subsection, unless no byte is left.
abbrev pub one_subsection : Lenient Subsection
one_subsection = unless_ended (one (λ s. s ∷ []) subsection)

-- Subsections up to the end of the bytes, or to the first error; at most n.
abbrev pub subsections : ℕ → Lenient Subsection
subsections n = repeat one_subsection n

-- The result of reading the section. The first subsection with an unknown id, or the first error, decides.
pub data Judged : Type 0 where
  Whole : List Subsection → Judged
  Unknown : ℕ → Judged
  Faulty : Judged

-- The id of the subsection, if it is unknown.
abbrev pub other_of : SubsectionContent → Option ℕ
other_of (Other id) = Some id
other_of _ = None

-- The first number, or the second one if there is no first.
abbrev pub first_some : Option ℕ → Option ℕ → Option ℕ
first_some (Some id) later = Some id
first_some None later = later

-- The first unknown id among the subsections.
abbrev pub first_other : List Subsection → Option ℕ
first_other [] = None
first_other (s ∷ ss) = first_some (other_of s.value) (first_other ss)

-- The result for the subsections that were read. The second argument is the first unknown id, which refuses the
-- section. The third is `None` if reading ended with an error.
abbrev pub judgement_by : List Subsection → Option ℕ → Option Input → Judged
judgement_by ss (Some id) end = Unknown id
judgement_by ss None (Some after) = Whole ss
judgement_by ss None None = Faulty

-- The result of reading the data of a section.
abbrev pub judgement_of : Input → Judged
judgement_of at =
    let read : List Subsection × Option Input = (subsections (length at.bytes)).read at in
    judgement_by read.0 (first_other read.0) read.1
