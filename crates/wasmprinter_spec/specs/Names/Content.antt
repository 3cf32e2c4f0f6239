-- The names of items by the entries of name sections, and the characters after the dollar sign for each, which are
-- the content of the name. The standard leaves identifiers open: these are this printer's own.
use Rattle.std.specs.Prelude.{ℕ, List, [], ◌∷◌, ◌++◌, Bool, false, ◌||◌, ◌&&◌, ◌==◌, bytes_eq, not, Option, Some, None, if◌then◌else◌, codes, decimal, filter}
use Rattle.wasmprinter_spec.specs.Labels.{Named}
use Rattle.wasmprinter_spec.specs.LabelNames.{is_clean}
use Rattle.wasmprinter_spec.specs.Names.Section.{Entry, module_subsection, function_subsection, local_subsection, label_subsection, type_subsection, table_subsection, memory_subsection, global_subsection, elem_subsection, data_subsection, field_subsection}

-- The word for the items that a subsection names, by the id of the subsection.
abbrev pub group_of : ℕ → List ℕ
group_of s =
    if s == module_subsection then codes "module"
    else if s == function_subsection then codes "func"
    else if s == local_subsection then codes "local"
    else if s == label_subsection then codes "label"
    else if s == type_subsection then codes "type"
    else if s == table_subsection then codes "table"
    else if s == memory_subsection then codes "memory"
    else if s == global_subsection then codes "global"
    else if s == elem_subsection then codes "elem"
    else if s == data_subsection then codes "data"
    else if s == field_subsection then codes "field"
    else codes "tag"

-- The sign #, the word and the index.
abbrev pub index_content : List ℕ → ℕ → List ℕ
index_content group index = 35 ∷ (group ++ decimal index)

-- The sign #, the word, the index, a space and the name.
abbrev pub marked_content : List ℕ → ℕ → List ℕ → List ℕ
marked_content group index name = 35 ∷ (group ++ (decimal index ++ (32 ∷ name)))

-- The subsection's names count as given. Those of modules and labels never do.
abbrev pub is_counted : ℕ → Bool
is_counted s = not (s == module_subsection || s == label_subsection)

-- The name is in the list.
abbrev pub is_among : List ℕ → List (List ℕ) → Bool
is_among name [] = false
is_among name (n ∷ names) = bytes_eq n name || is_among name names

-- The content of an entry, if the names `given` were given before in its space. It is the name, unless the name is
-- empty, begins with # or was given before; then it is `marked_content`.
abbrev pub content : ℕ → List (List ℕ) → Entry → List ℕ
content s given e =
    if not (is_clean e.name) || (is_counted s && is_among e.name given) then marked_content (group_of s) e.index e.name
    else e.name

-- The name that the entry e of subsection s gives, with its content. `given` are the names that were given before in
-- its space.
abbrev pub entry_name : ℕ → List (List ℕ) → Entry → Named
entry_name s given e = record { given = Some e.name; content = content s given e }

-- The name of the index by the entries of one space: the last entry for the index names it. `given` are the names
-- of earlier entries, `before` is the name that these gave the index.
abbrev pub last_name : ℕ → List (List ℕ) → Option Named → List Entry → ℕ → Option Named
last_name s given before [] index = before
last_name s given before (e ∷ entries) index =
    last_name s (e.name ∷ given) (if e.index == index then Some (entry_name s given e) else before) entries index

-- The entry is in this subsection and, for locals, labels and fields, belongs to this function or type.
abbrev pub is_in : ℕ → ℕ → Entry → Bool
is_in s outer e = e.subsection == s && e.outer == outer

-- The entries of one space, in order.
abbrev pub entries_in : ℕ → ℕ → List Entry → List Entry
entries_in s outer entries = filter (is_in s outer) entries

-- The name of an item, by all entries of a module: the last entry for the item gives it, and those before this entry in
-- its space say which names were given before. `None` if there is no such entry. The numbers are the id of the
-- subsection, the function or type (`outer` of `Entry`; 0 if the item is in neither) and the index.
abbrev pub name_of : List Entry → ℕ → ℕ → ℕ → Option Named
name_of entries s outer index = last_name s [] None (entries_in s outer entries) index
