-- What the text of a module does not show of a name section (appendix "Name Section" of the standard, and the extended name
-- section proposal): names of nothing, names that are replaced, subsections with an unknown id or without names, functions and
-- types without names, bytes that are not read, missing names, and numbers with more bytes than needed.
use Rattle.std.specs.Prelude.{◌≡◌, ℕ, zero, suc, ◌+◌, ◌-◌, List, [], ◌∷◌, ◌++◌, length, map, Bool, true, false, not, ◌&&◌, ◌||◌, ◌==◌, nat_lt, bytes_eq, if◌then◌else◌, Option, Some, None, slice_get}
use Rattle.std.specs.List.{filter}
use Rattle.wasmprinter_spec.specs.Grammar.{Input, input, Placed, ◌>>=◌}
use Rattle.wasmprinter_spec.specs.Repeated.{some_or}
use Rattle.wasmprinter_spec.specs.Name.{u32, name}
use Rattle.wasmprinter_spec.specs.Types.{ExternType, FuncType, all_types, signature_at, fields_at}
use Rattle.wasmprinter_spec.specs.Row.{Role, Opens, OpensIf, OpensTry}
use Rattle.wasmprinter_spec.specs.Instructions.{roles}
use Rattle.wasmprinter_spec.specs.Placed.{PlacedModule}
use Rattle.wasmprinter_spec.specs.Module.{groups_of, without_places, imported_types, func_import, table_import, memory_import, global_import, tag_import}
use Rattle.wasmprinter_spec.specs.HintsOfModule.{body_at}
use Rattle.wasmprinter_spec.specs.ModuleNames.{name_entries, entries_given}
use Rattle.wasmprinter_spec.specs.Names.Content.{name_of}
use Rattle.wasmprinter_spec.specs.Names.Section.{Entry, entry_of, association, is_indirect, module_subsection, function_subsection, local_subsection, label_subsection, type_subsection, table_subsection, memory_subsection, global_subsection, elem_subsection, data_subsection, tag_subsection}
use Rattle.wasmprinter_hidden.specs.Lengths.{unsigned_len, bytes_len, association_len}
use Rattle.wasmprinter_hidden.specs.Findings.{finding, if_longer, any_section}
use Rattle.wasmprinter_hidden.specs.declared.finding.Part.{Part}
use Rattle.wasmprinter_hidden.specs.declared.finding.Part.TheVariants.{NameSubsection, NameSubsectionSize, NameCount, NameOwner, OwnerWithoutNames, Name, NameOfNothing, ReplacedName, UnreadNames, MissingNames}
use Rattle.wasmprinter_hidden.specs.declared.finding.Finding.{Finding}

-- ---- What has names

-- The number of imports with a type of this kind.
abbrev pub imported : {A : Type 0} → PlacedModule → (ExternType → Option A) → ℕ
imported m import = length (imported_types import (without_places m.imports))

-- The number of items of the module that a subsection with this id names. It names no locals, labels or fields.
abbrev pub item_count : PlacedModule → ℕ → ℕ
item_count m s =
    if s == module_subsection then 1
    else if s == function_subsection then imported m func_import + length m.functions
    else if s == type_subsection then length (all_types (groups_of m.types))
    else if s == table_subsection then imported m table_import + length m.tables
    else if s == memory_subsection then imported m memory_import + length m.memories
    else if s == global_subsection then imported m global_import + length m.globals
    else if s == elem_subsection then length m.elements
    else if s == data_subsection then length m.data_segments
    else if s == tag_subsection then imported m tag_import + length m.tags
    else 0

-- The indices of the types of all functions: imported functions come first.
abbrev pub function_types : PlacedModule → List ℕ
function_types m = imported_types func_import (without_places m.imports) ++ map (λ f. f.type_index) m.functions

-- The type of the function with this index, if there is such a function and its type is a function type.
abbrev pub function_type : PlacedModule → ℕ → Option FuncType
function_type m f = slice_get (function_types m) f >>= signature_at (all_types (groups_of m.types))

-- The sum of the numbers.
abbrev pub sum : List ℕ → ℕ
sum [] = 0
sum (n ∷ ns) = n + sum ns

-- The number of parameters and locals of the function with this index.
abbrev pub local_count : PlacedModule → ℕ → ℕ
local_count m f =
    some_or (function_type m f) 0 (λ t. length t.params)
    + some_or (body_at (imported m func_import) m.functions f) 0 (λ b. sum (map (λ e. e.value.count) b.value.locals))

-- The operator opens a block.
abbrev pub opens : Role → Bool
opens Opens = true
opens OpensIf = true
opens OpensTry = true
opens role = false

-- The number of blocks in the body of the function with this index.
abbrev pub block_count : PlacedModule → ℕ → ℕ
block_count m f = some_or (body_at (imported m func_import) m.functions f) 0 (λ b. length (filter opens (roles b.value.operators)))

-- The number of fields of the structure type with this index.
abbrev pub field_count : PlacedModule → ℕ → ℕ
field_count m t = some_or (fields_at (all_types (groups_of m.types)) t) 0 (λ fs. length fs)

-- The number of locals or labels of the function, or of fields of the type, that a subsection with this id names.
abbrev pub inner_count : PlacedModule → ℕ → ℕ → ℕ
inner_count m s outer =
    if s == local_subsection then local_count m outer
    else if s == label_subsection then block_count m outer
    else field_count m outer

-- ---- Which names count

-- The name of an item, by the last entry for it in the name sections of the module. The numbers are those of `name_of`.
abbrev pub counted_name : PlacedModule → ℕ → ℕ → ℕ → Option (List ℕ)
counted_name m s outer index = name_of (name_entries m.customs) s outer index >>= λ n. n.given

-- The item has another name than this one.
abbrev pub is_replaced : PlacedModule → ℕ → ℕ → ℕ → List ℕ → Bool
is_replaced m s outer index given = some_or (counted_name m s outer index) false (λ n. not (bytes_eq n given))

-- ---- Reading up to the first error

-- Bytes that were read item by item: the findings in the items, the names that they give, the input that is left, and whether
-- reading stopped at an item that the bytes do not encode. Then the input that is left starts with that item.
pub record Reading : Type 0 where
  pub found : List Finding
  pub names : List Entry
  pub left : Input
  pub stopped : Bool

-- The reading with these fields.
abbrev pub reading : List Finding → List Entry → Input → Bool → Reading
reading found names left stopped = record { found = found; names = names; left = left; stopped = stopped }

-- Nothing was read, and reading stopped here.
abbrev pub stop : Input → Reading
stop at = reading [] [] at true

-- Something that gives no names was read, up to this input.
abbrev pub passed : List Finding → Input → Reading
passed found after = reading found [] after false

-- A reading, and unless it stopped, what is read after it.
abbrev pub and_then : Reading → (Input → Reading) → Reading
and_then r next =
    if r.stopped then r
    else (let s : Reading = next r.left in reading (r.found ++ s.found) (r.names ++ s.names) s.left s.stopped)

-- Reads a number, and then what depends on it.
abbrev pub read_number : Part → (ℕ → Input → Reading) → Input → Reading
read_number part next at =
    some_or (u32.parse at) (stop at)
    (λ x. and_then (passed (if_longer part at.place x.1.place (unsigned_len x.0)) x.1) (next x.0))

-- Reads n times.
abbrev pub repeat : ℕ → (Input → Reading) → Input → Reading
repeat zero read at = passed [] at
repeat (suc n) read at = and_then (read at) (repeat n read)

-- Reads a count n, and then n times.
abbrev pub read_list : (Input → Reading) → Input → Reading
read_list read at = read_number NameCount (λ n. repeat n read) at

-- ---- A name section

-- The findings in a name, which has `len` bytes in its shortest encoding: the text does not have it if it is replaced.
abbrev pub in_given : Bool → ℕ → ℕ → ℕ → List Finding
in_given replaced place len end =
    if replaced then finding place ReplacedName (end - place) ∷ [] else if_longer Name place end len

-- The findings in a name with its index, in the subsection s and in the function or type `outer` (0 if the item is in neither).
-- It is the name of nothing if there are no more than `index` such items.
abbrev pub in_name : PlacedModule → ℕ → ℕ → ℕ → ℕ → ℕ × List ℕ → ℕ → List Finding
in_name m s outer count place x end =
    if nat_lt x.0 count then in_given (is_replaced m s outer x.0 x.1) place (association_len x) end
    else finding place NameOfNothing (end - place) ∷ []

-- A name with its index. There are `count` such items.
abbrev pub item_name : PlacedModule → ℕ → ℕ → ℕ → Input → Reading
item_name m s outer count at =
    some_or (association.parse at) (stop at)
    (λ x. reading (in_name m s outer count at.place x.0 x.1.place) (entry_of s outer x.0 ∷ []) x.1 false)

-- Names of items, of which there are `count`.
abbrev pub name_map : PlacedModule → ℕ → ℕ → ℕ → Input → Reading
name_map m s outer count at = read_list (item_name m s outer count) at

-- The input after a function or type without names, if the input starts with one: its index, and the count 0.
abbrev pub after_no_names : Input → Option Input
after_no_names at = u32.parse at >>= λ x. u32.parse x.1 >>= λ y. if y.0 == 0 then Some y.1 else None

-- A function or type with names, and its names.
abbrev pub owned_names : PlacedModule → ℕ → Input → Reading
owned_names m s at = read_number NameOwner (λ outer. name_map m s outer (inner_count m s outer)) at

-- A function or type, and its names. It is a finding as a whole if it has none.
abbrev pub inner_map : PlacedModule → ℕ → Input → Reading
inner_map m s at =
    some_or (after_no_names at) (owned_names m s at)
    (λ after. passed (finding at.place OwnerWithoutNames (after.place - at.place) ∷ []) after)

-- The name of the module.
abbrev pub module_name : PlacedModule → Input → Reading
module_name m at =
    some_or (name.parse at) (stop at)
    (λ x. reading (in_given (is_replaced m module_subsection 0 0 x.0) at.place (bytes_len x.0) x.1.place)
    (entry_of module_subsection 0 (0, x.0) ∷ []) x.1 false)

-- The content of a subsection with a known id.
abbrev pub content : PlacedModule → ℕ → Input → Reading
content m s at =
    if s == module_subsection then module_name m at
    else if is_indirect s then read_list (inner_map m s) at
    else name_map m s 0 (item_count m s) at

-- The bytes that are left, if there are any. Nothing reads them.
abbrev pub unread : Input → List Finding
unread at = if length at.bytes == 0 then [] else finding at.place UnreadNames (length at.bytes) ∷ []

-- What was read of the content of a subsection, which ends before the input `after`.
abbrev pub at_end_of : Input → Reading → Reading
at_end_of after r = if r.stopped then r else reading (r.found ++ unread r.left) r.names after false

-- A subsection with a known id, whose size starts at the place.
abbrev pub known_subsection : PlacedModule → ℕ → ℕ → Placed (List ℕ) → Input → Reading
known_subsection m size s c after =
    and_then (passed (if_longer (NameSubsectionSize s) size c.place (unsigned_len (length c.value))) after)
    (λ _. at_end_of after (content m s (input c.place c.value)))

-- The content starts with the count 0.
abbrev pub is_empty_list : Placed (List ℕ) → Bool
is_empty_list c = some_or (u32.parse (input c.place c.value)) false (λ x. x.0 == 0)

-- A subsection with this id and content gives no names: its id is unknown, or it is a list without entries.
abbrev pub gives_no_names : ℕ → Placed (List ℕ) → Bool
gives_no_names s c = nat_lt tag_subsection s || (not (s == module_subsection) && is_empty_list c)

-- A subsection: an id, a size, and the content. It is a finding as a whole if it gives no names.
abbrev pub subsection : PlacedModule → Input → Reading
subsection m at =
    some_or (any_section.parse at) (stop at)
    (λ ((s, c), after).
    if gives_no_names s c then passed (finding at.place (NameSubsection s) (after.place - at.place) ∷ []) after
    else known_subsection m (at.place + 1) s c after)

-- The next subsection, if a byte is left.
abbrev pub next_subsection : PlacedModule → Input → Reading
next_subsection m at = if length at.bytes == 0 then passed [] at else subsection m at

-- The data of a name section. Each subsection takes a byte or more.
abbrev pub name_data : PlacedModule → Placed (List ℕ) → Reading
name_data m d = repeat (length d.value) (next_subsection m) (input d.place d.value)

-- What is not read before the place `end`, if reading stopped: bytes, or names that the bytes do not have.
abbrev pub after_stop : Reading → ℕ → List Finding
after_stop r end =
    if r.stopped then
    (if nat_lt r.left.place end then finding r.left.place UnreadNames (end - r.left.place) ∷ [] else finding end MissingNames 0 ∷ [])
    else []

-- The findings in the data of a name section.
abbrev pub in_names : PlacedModule → Placed (List ℕ) → List Finding
in_names m d = (name_data m d).found ++ after_stop (name_data m d) (d.place + length d.value)

-- The names that the findings are about are those that count: the entries that the data gives.
abbrev pub NamesAreThoseGiven : Type 0
NamesAreThoseGiven = (m : PlacedModule) (d : Placed (List ℕ)) → (name_data m d).names ≡ entries_given d
