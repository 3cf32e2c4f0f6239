-- The lengths of this crate are those of the shortest encodings.
use Rattle.wasmprinter_hidden.specs.Shortest.{AreShortest}
use Rattle.wasmprinter_spec.specs.Name.{u32}
use Rattle.wasmprinter_hidden.proofs.Combinators.{is_shortest, is_shortest_but, list_measured}
use Rattle.wasmprinter_hidden.proofs.Names.{u32_measured, name_measured}
use Rattle.wasmprinter_hidden.proofs.Types.{group_measured}
use Rattle.wasmprinter_hidden.proofs.ExternTypes.{memory_type_measured, tag_measured, import_measured, export_measured, local_entry_measured}
use Rattle.wasmprinter_hidden.proofs.Operators.{operator_measured}
use Rattle.wasmprinter_hidden.proofs.Entries.{table_measured, global_measured, element_measured, data_measured}
use Rattle.wasmprinter_hidden.proofs.CustomData.{association_measured, fields_measured, subsection_measured, hints_measured}

-- Each grammar has the lengths that the definitions say.
pub are_shortest : AreShortest
are_shortest = record {
  numbers = is_shortest u32_measured;
  names = is_shortest name_measured;
  type_indices = is_shortest (list_measured u32 u32_measured);
  groups = is_shortest group_measured;
  memory_types = is_shortest memory_type_measured;
  tags = is_shortest tag_measured;
  imports = is_shortest import_measured;
  exports = is_shortest export_measured;
  local_entries = is_shortest local_entry_measured;
  operators = is_shortest operator_measured;
  tables = is_shortest_but table_measured;
  globals = is_shortest_but global_measured;
  elements = is_shortest_but element_measured;
  data_segments = is_shortest_but data_measured;
  associations = is_shortest association_measured;
  fields = is_shortest_but fields_measured;
  subsections = is_shortest_but subsection_measured;
  hints = is_shortest_but hints_measured;
}
