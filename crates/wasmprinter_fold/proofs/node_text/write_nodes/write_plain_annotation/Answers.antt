use Rattle.wasmprinter_fold.proofs.node_text.write_nodes.write_plain_annotation.Goals as goal

pub returns : goal.returns
returns g c = rw c.hint_text.ensures.shown at c.write_word.ensures
