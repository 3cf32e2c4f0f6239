use Rattle.wasmprinter_module_text.proofs.printing_scope.write_index_group_in.Goals as goal

pub returns : goal.returns
returns g c = rw (c.identifiers.ensures.items c.args.space c.args.index) at c.write_index_group.ensures
