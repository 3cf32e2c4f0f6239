use Rattle.wasmprinter_module_text.proofs.printing_scope.write_val_type_in.Goals as goal

pub returns : goal.returns
returns g c = rw c.identifiers.ensures.all at c.write_val_type.ensures
