use Rattle.std.proofs.Common.{ap}
use Rattle.wasmprinter_spec.specs.Layout.Declarations.{Scope, scope_of_function}
use Rattle.wasmprinter_spec.specs.Layout.DataSegments.{data_pieces}
use Rattle.wasmprinter_module_text.proofs.section_fields.write_data_segments.Goals as goal

pub returns-clause-pieces : goal.returns-clause-pieces
unfolding data_pieces
returns-clause-pieces g c = rw (c.data_segments.ensures, c.from.ensures, c.function_count.ensures, c.imported_count.ensures.is) at c.write_each.ensures.pieces

pub returns-clause-scope : goal.returns-clause-scope
returns-clause-scope g c = ap (λ (s : Scope). scope_of_function s c.args.scope.now.function) c.write_each.ensures.scope
