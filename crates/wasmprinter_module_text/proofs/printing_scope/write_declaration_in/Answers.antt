use Rattle.wasmprinter_module_text.proofs.printing_scope.write_declaration_in.Goals as goal

pub returns : goal.returns
returns g c = rw (c.identifiers.ensures.items c.args.space c.args.number) at c.write_declaration_of.ensures
