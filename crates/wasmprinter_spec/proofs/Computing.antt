-- Three names that unfold the definitions with which worked rows compute. A proof by `refl` lists one of them on
-- its line `unfolding`.
use Rattle.std.specs.Prelude.{⊤}
use Rattle.std.specs.Fmt.{digits}
use Rattle.std.specs.Char.{encode_utf8}
use Rattle.std.specs.Str.{is_utf8, chars}
use Rattle.wasmprinter_spec.specs.Table.{table}
use Rattle.wasmprinter_spec.specs.Character.{class}
use Rattle.wasmprinter_spec.specs.Numeral.{numeral, natural, integer}
use Rattle.wasmprinter_spec.specs.Float.{units_of, units, bits_by_halving, bits_of, unsigned_float, float}
use Rattle.wasmprinter_spec.specs.FloatText.{digits_after, doublings, unsigned_text, float_text, unsigned_calls, float_calls}
use Rattle.wasmprinter_spec.specs.Token.{escape, lex}
use Rattle.wasmprinter_spec.specs.Code.{head}
use Rattle.wasmprinter_spec.specs.Text.Items.{groups}
use Rattle.wasmprinter_spec.specs.Text.Types.{heap_of_word, ref_of_word, number_of_word, packed_of_word}
use Rattle.wasmprinter_spec.specs.Text.Operators.{lane_size}
use Rattle.wasmprinter_spec.specs.Text.Exports.{kind_of_word}
use Rattle.wasmprinter_spec.specs.Text.Customs.{section_of_word}
use Rattle.wasmprinter_spec.specs.Piece.{repetition_of, left_in, place_text}
use Rattle.wasmprinter_spec.specs.Quoted.{char_text, byte_text, quoted_text, quoted_bytes, identifier_text}
use Rattle.wasmprinter_spec.specs.Layout.{layout, layout_folded, module_parts, module_pieces, module_pieces_with, pieces_by}
use Rattle.wasmprinter_spec.specs.Layout.Tags.{tag_pieces}
use Rattle.wasmprinter_spec.specs.Layout.Start.{start_pieces}
use Rattle.wasmprinter_spec.specs.Layout.Customs.{exports_pieces, malformed_pieces, fields_pieces, flags_by, flags_pieces, space_quoted_list, import_infos_pieces, names_pieces, after_pieces, raw_pieces, sizes_group, sizes_pieces, subsections_pieces, values_pieces}
use Rattle.wasmprinter_spec.specs.Layout.DataSegments.{data_mode_pieces, data_pieces}
use Rattle.wasmprinter_spec.specs.Layout.Elements.{element_pieces, expression_items, function_items, items_pieces, mode_pieces}
use Rattle.wasmprinter_spec.specs.Layout.Exports.{export_pieces, extern_index_pieces, kind_word}
use Rattle.wasmprinter_spec.specs.Layout.Expressions.{constant_by, constant_group, constant_pieces}
use Rattle.wasmprinter_spec.specs.Layout.Functions.{body_by, body_pieces, function_group, function_pieces, functions_pieces, header_pieces, inner_pieces, local_line, local_pieces}
use Rattle.wasmprinter_spec.specs.Layout.Globals.{global_pieces, global_type_pieces}
use Rattle.wasmprinter_spec.specs.Layout.Groups.{group, group_at, group_space, group_space_at, line_group, line_group_space, numbered_pieces}
use Rattle.wasmprinter_spec.specs.Layout.Identifiers.{declaration_pieces, identifier_space_pieces, index_pieces, leading_id_and_name_pieces, id_and_name_space_pieces, id_and_name_pieces}
use Rattle.wasmprinter_spec.specs.Layout.Imports.{extern_pieces, import_pieces, imports_pieces}
use Rattle.wasmprinter_spec.specs.Layout.Limits.{limits_pieces}
use Rattle.wasmprinter_spec.specs.Layout.Memories.{memory_pieces, memory_type_pieces}
use Rattle.wasmprinter_spec.specs.Layout.Operators.{align_pieces, block_pieces, catch_pieces, catches_pieces, default_index_pieces, ending_pieces, expression_pieces, hex_words, immediate_pieces, label_pieces, labels_pieces, lane_pieces, lanes_pieces, mem_arg_pieces, offset_pieces, operand_pieces, operator_pieces, operators_pieces, select_pieces, two_index_pieces, type_and_field_pieces, vector_pieces}
use Rattle.wasmprinter_spec.specs.Layout.Tables.{init_pieces, table_pieces, table_type_pieces}
use Rattle.wasmprinter_spec.specs.Layout.Types.{composite_pieces, field_pieces, list_group, member_pieces, signature_pieces, storage_pieces, struct_field_pieces, sub_group, sub_pieces, supertype_pieces, type_group_pieces, type_pieces, type_section_pieces, type_use_pieces}
use Rattle.wasmprinter_spec.specs.Layout.ValTypes.{heap_pieces, null_ref_pieces, ref_pieces, type_index_pieces, type_list, val_pieces}
use Rattle.wasmprinter_spec.specs.Layout.Variables.{groups_pieces, variables_pieces}

-- Unfolds how operators are printed.
unfoldable pub printing : ⊤
unfolding table digits repetition_of digits_after doublings unsigned_text float_text unsigned_calls float_calls chars identifier_text char_text byte_text quoted_text quoted_bytes align_pieces block_pieces catch_pieces catches_pieces declaration_pieces default_index_pieces ending_pieces expression_pieces groups_pieces heap_pieces hex_words identifier_space_pieces immediate_pieces index_pieces label_pieces labels_pieces lane_pieces lanes_pieces leading_id_and_name_pieces line_group line_group_space list_group id_and_name_space_pieces id_and_name_pieces mem_arg_pieces null_ref_pieces offset_pieces operand_pieces operator_pieces operators_pieces ref_pieces select_pieces signature_pieces two_index_pieces type_and_field_pieces type_index_pieces type_list type_use_pieces val_pieces variables_pieces vector_pieces
printing = tt

-- Unfolds how a module is printed.
unfoldable pub composing : ⊤
unfolding printing left_in place_text body_by body_pieces composite_pieces constant_by constant_group constant_pieces data_mode_pieces data_pieces element_pieces export_pieces exports_pieces expression_items extern_index_pieces extern_pieces malformed_pieces field_pieces fields_pieces flags_by flags_pieces function_group function_items function_pieces functions_pieces space_quoted_list global_pieces global_type_pieces group group_at group_space group_space_at header_pieces import_infos_pieces import_pieces imports_pieces init_pieces inner_pieces items_pieces kind_word layout layout_folded limits_pieces local_line local_pieces member_pieces memory_pieces memory_type_pieces mode_pieces module_parts module_pieces module_pieces_with names_pieces numbered_pieces pieces_by after_pieces raw_pieces sizes_group sizes_pieces start_pieces storage_pieces struct_field_pieces sub_group sub_pieces subsections_pieces supertype_pieces table_pieces table_type_pieces tag_pieces type_group_pieces type_pieces type_section_pieces values_pieces
composing = tt

-- Unfolds how a text is read.
unfoldable pub reading : ⊤
unfolding table class is_utf8 chars encode_utf8 numeral natural integer units_of units bits_by_halving bits_of unsigned_float float escape lex groups head heap_of_word ref_of_word number_of_word packed_of_word kind_of_word lane_size section_of_word
reading = tt
