use Rattle.wasmprinter_module_text.specs.Scopes.{scope_view}
use Rattle.wasmprinter_module_text.proofs.Declared.{table-parts}
use Rattle.wasmprinter_module_text.proofs.tables.TableField.write_parts.Goals as goal

pub returns-clause-pieces : goal.returns-clause-pieces
returns-clause-pieces g c =
    rw (table-parts (scope_view g.O.Output.chosen c.args.scope.now) c.args.number c.args.self.now.value)
    (g.met.O.Output.pieces_then _ _ _ _ _ (rw c.ty.ensures at c.write_declared_table.ensures) c.write_init.ensures.pieces)
