use Rattle.wasmprinter_text.proofs.standalone_values.write_to_printer.Goals as goal

pub returns-clause-same : goal.returns-clause-same
returns-clause-same g c = c.write.ensures.1

pub returns-clause-made : goal.returns-clause-made
returns-clause-made g c = c.write.ensures.0
