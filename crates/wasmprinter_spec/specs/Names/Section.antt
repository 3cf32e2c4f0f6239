-- The data of a name section (appendix "Name Section" of the standard, and the extended name section proposal):
-- subsections with names for indices. The entries before the first error count.
use Rattle.std.specs.Prelude.{◌≡◌, ℕ, List, [], ◌∷◌, Bool, ◌||◌, ◌==◌, nat_lt}
use Rattle.wasmprinter_spec.specs.Grammar.{Input, Grammar, byte, seq}
use Rattle.wasmprinter_spec.specs.Name.{u32, name}
use Rattle.wasmprinter_spec.specs.Types.{concat}
use Rattle.wasmprinter_spec.specs.Lenient.{Lenient, give, follow, one, repeat, within, by_test, unless_ended, Groups}

-- ---- The ids of subsections

-- The standard has `module_subsection`, `function_subsection`, `local_subsection`, `type_subsection`,
-- `field_subsection` and `tag_subsection`. The proposal adds `label_subsection`, `table_subsection`,
-- `memory_subsection`, `global_subsection`, `elem_subsection` and `data_subsection`.
abbrev pub module_subsection : ℕ
module_subsection = 0

abbrev pub function_subsection : ℕ
function_subsection = 1

abbrev pub local_subsection : ℕ
local_subsection = 2

abbrev pub label_subsection : ℕ
label_subsection = 3

abbrev pub type_subsection : ℕ
type_subsection = 4

abbrev pub table_subsection : ℕ
table_subsection = 5

abbrev pub memory_subsection : ℕ
memory_subsection = 6

abbrev pub global_subsection : ℕ
global_subsection = 7

abbrev pub elem_subsection : ℕ
elem_subsection = 8

abbrev pub data_subsection : ℕ
data_subsection = 9

abbrev pub field_subsection : ℕ
field_subsection = 10

-- The last known id.
abbrev pub tag_subsection : ℕ
tag_subsection = 11

-- Locals and labels are indexed within a function, fields within a type.
abbrev pub is_indirect : ℕ → Bool
is_indirect s = s == local_subsection || s == label_subsection || s == field_subsection

-- ---- Entries

-- A name that a subsection (its id) gives for an index. `outer` is the index of the function of a local or a label
-- (imports counted), or of the type of a field, in which `index` then counts; otherwise it is 0. The index of a label is
-- the number of its block in the function, from 0, in the order in which blocks are opened. For the module, `index` is 0.
pub record Entry : Type 0 where
  pub subsection : ℕ
  pub outer : ℕ
  pub index : ℕ
  pub name : List ℕ

-- An index and its name.
abbrev pub association : Grammar (ℕ × List ℕ)
association = seq u32 (λ _. name)

-- The entry of subsection s for the index x.0 with the name x.1. `outer` is the function or type, as in `Entry`.
abbrev pub entry_of : ℕ → ℕ → ℕ × List ℕ → Entry
entry_of s outer x = record { subsection = s; outer = outer; index = x.0; name = x.1 }

-- An association as an entry. The arguments are those of `entry_of`.
abbrev pub entry : ℕ → ℕ → Lenient Entry
entry s outer = one (λ x. entry_of s outer x ∷ []) association

-- A name map: a count n, and then n indices with their names.
abbrev pub name_map : ℕ → ℕ → Lenient Entry
name_map s outer = follow u32 (λ n. repeat (entry s outer) n)

-- A function or type, and its name map.
abbrev pub inner_map : ℕ → Lenient Entry
inner_map s = follow u32 (λ outer. name_map s outer)

-- An indirect name map: a count n, and then n indices with their name maps.
abbrev pub indirect_map : ℕ → Lenient Entry
indirect_map s = follow u32 (λ n. repeat (inner_map s) n)

-- The name of the module.
abbrev pub module_name : Lenient Entry
module_name = one (λ x. entry_of module_subsection 0 (0, x) ∷ []) name

-- ---- Subsections

-- The content of a subsection with a known id.
abbrev pub entries_by_id : ℕ → Lenient Entry
entries_by_id s = by_test (s == module_subsection) module_name (by_test (is_indirect s) (indirect_map s) (name_map s 0))

-- The content of a subsection. The bytes of one with an unknown id are skipped.
abbrev pub content : ℕ → Lenient Entry
content s = by_test (nat_lt tag_subsection s) (give []) (entries_by_id s)

-- An id, a size, and that many bytes.
abbrev pub subsection : Lenient Entry
subsection = follow byte (λ s. follow u32 (λ size. within (content s) size))

-- All subsections, but at most n.
abbrev pub subsections : ℕ → Lenient Entry
subsections n = repeat (unless_ended subsection) n

-- The data of a name section gives these entries, in order: those of its subsections, up to the first error.
abbrev pub GivesNames : Input → List Entry → Type 0
GivesNames at entries = (groups : List (List Entry)) × Groups subsection at groups × (entries ≡ concat groups)
