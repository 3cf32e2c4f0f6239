use Rattle.wasmprinter_spec.specs.Layout.Tags.{tag_pieces}
use Rattle.wasmprinter_spec.specs.Layout.Tables.{table_pieces}
use Rattle.wasmprinter_spec.specs.Layout.Memories.{memory_pieces}
use Rattle.wasmprinter_spec.specs.Layout.Globals.{global_pieces}
use Rattle.wasmprinter_spec.specs.Layout.Exports.{export_pieces}
use Rattle.wasmprinter_spec.specs.Layout.Elements.{element_pieces}
use Rattle.wasmprinter_spec.specs.Types.{MemoryKind, TagKind}
use Rattle.wasmprinter_decoder.specs.Externs.{imported_count}
use Rattle.wasmprinter_module_text.specs.Scopes.{scope_view}
use Rattle.wasmprinter_module_text.proofs.FieldsOnOneLine.{memory-line, tag-line, export-line}
use Rattle.wasmprinter_module_text.proofs.Folding.{numbered_pieces-agree}
use Rattle.wasmprinter_module_text.proofs.section_fields.write_fields_of.Goals as goal

pub returns-in-Table-clause-pieces : goal.returns-in-Table-clause-pieces
unfolding table_pieces
returns-in-Table-clause-pieces g c = rw c.in-Table.is (rw c.tables.ensures.all at c.write_defined.ensures.pieces)

pub returns-in-Memory-clause-pieces : goal.returns-in-Memory-clause-pieces
returns-in-Memory-clause-pieces g c =
    let s = scope_view g.O.Output.chosen c.args.scope.now in
    let m = c.args.module.now in
    rw (c.in-Memory.is, numbered_pieces-agree (memory_pieces s) _ (memory-line s) (imported_count MemoryKind m.imports) m.memories) (rw c.memories.ensures.all at c.write_defined-in-Memory.ensures.pieces)

pub returns-in-Tag-clause-pieces : goal.returns-in-Tag-clause-pieces
returns-in-Tag-clause-pieces g c =
    let s = scope_view g.O.Output.chosen c.args.scope.now in
    let m = c.args.module.now in
    rw (c.in-Tag.is, numbered_pieces-agree (tag_pieces s) _ (tag-line s) (imported_count TagKind m.imports) m.tags) (rw c.tags.ensures.all at c.write_defined-in-Tag.ensures.pieces)

pub returns-in-Global-clause-pieces : goal.returns-in-Global-clause-pieces
unfolding global_pieces
returns-in-Global-clause-pieces g c = rw c.in-Global.is (rw c.globals.ensures.all at c.write_defined-in-Global.ensures.pieces)

pub returns-in-Export-clause-pieces : goal.returns-in-Export-clause-pieces
returns-in-Export-clause-pieces g c =
    let s = scope_view g.O.Output.chosen c.args.scope.now in
    rw (c.in-Export.is, numbered_pieces-agree (λ i e. export_pieces s e) _ (export-line s) 0 c.args.module.now.exports) (rw c.exports.ensures at c.write_each.ensures.pieces)

pub returns-in-Element-clause-pieces : goal.returns-in-Element-clause-pieces
unfolding element_pieces
returns-in-Element-clause-pieces g c = rw c.in-Element.is (rw c.elements.ensures at c.write_each-in-Element.ensures.pieces)
