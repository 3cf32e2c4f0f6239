use Rattle.wasmprinter_text.proofs.types.params_and_locals.write_variable.Goals as goal

pub returns-clause-pieces : goal.returns-clause-pieces
returns-clause-pieces g c = rw c.variable-identifier.ensures at c.write_variable_as.ensures.pieces
