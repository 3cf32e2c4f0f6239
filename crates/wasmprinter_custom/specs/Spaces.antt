-- The subsection that names the items of an index space.
use Rattle.std.specs.Prelude.{ℕ, if◌then◌else◌}
use Rattle.wasmprinter_spec.specs.Names.Section.{function_subsection, local_subsection, label_subsection, type_subsection, table_subsection, memory_subsection, global_subsection, elem_subsection, data_subsection, field_subsection, tag_subsection, is_indirect}
use Rattle.wasmprinter_custom.specs.declared.index_space.Space.{Space}
use Rattle.wasmprinter_custom.specs.declared.index_space.Space.TheVariants.{Func, Local, Label, Types, Table, Memory, Global, Elem, Data, Field, Tag}

-- The id of the subsection of name sections that names the items of the space.
abbrev pub id_of : Space → ℕ
id_of Func = function_subsection
id_of Local = local_subsection
id_of Label = label_subsection
id_of Types = type_subsection
id_of Table = table_subsection
id_of Memory = memory_subsection
id_of Global = global_subsection
id_of Elem = elem_subsection
id_of Data = data_subsection
id_of Field = field_subsection
id_of Tag = tag_subsection

-- The function or type in which an item is numbered, and 0 for items that are not numbered within one.
abbrev pub outer_of : Space → ℕ → ℕ
outer_of space outer = if is_indirect (id_of space) then outer else 0
