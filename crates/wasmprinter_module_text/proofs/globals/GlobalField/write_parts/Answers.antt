use Rattle.wasmprinter_module_text.specs.Scopes.{scope_view}
use Rattle.wasmprinter_module_text.proofs.Declared.{global-parts}
use Rattle.wasmprinter_module_text.proofs.globals.GlobalField.write_parts.Goals as goal

pub returns-clause-pieces : goal.returns-clause-pieces
returns-clause-pieces g c =
    let law = g.met.O.Output in
    rw (global-parts (scope_view g.O.Output.chosen c.args.scope.now) c.args.number c.args.self.now.value)
    (law.pieces_then _ _ _ _ _ (rw c.ty.ensures at c.write_declared_global.ensures)
    (law.piece_then _ _ _ _ _ c.write_space.ensures (rw c.init.ensures at c.write_constant.ensures.pieces)))
