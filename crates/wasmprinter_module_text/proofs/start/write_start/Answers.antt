use Rattle.wasmprinter_module_text.specs.Scopes.{scope_view}
use Rattle.wasmprinter_module_text.proofs.FieldsOnOneLine.{start-line}
use Rattle.wasmprinter_module_text.proofs.start.write_start.Goals as goal

pub returns-in-Some-clause-pieces : goal.returns-in-Some-clause-pieces
returns-in-Some-clause-pieces g c =
    rw (c.in-Some.is, start-line (scope_view g.O.Output.chosen c.args.scope.now) c.in-Some.start) c.write_field.ensures.pieces
