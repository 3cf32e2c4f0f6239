use Rattle.std.proofs.Common.{rules}
use Rattle.wasmprinter_fold.proofs.TextLaws.{made_color, made_grows}
use Rattle.wasmprinter_fold.proofs.node_text.text_buffer.Texts.push_operator.Goals as goal

pub returns-in-Ok-clause-color : goal.returns-in-Ok-clause-color
returns-in-Ok-clause-color g c =
    made_color c.args.self.now (search rules) (search rules) c.write_operator_word.ensures.0 _ (search (rules, c.finish.ensures.printer))

pub returns-in-Ok-clause-grows : goal.returns-in-Ok-clause-grows
returns-in-Ok-clause-grows g c =
    made_grows c.args.self.now (search rules) (search rules) c.write_operator_word.ensures.0 _ (search (rules, c.finish.ensures.printer))

pub returns-clause-color : goal.returns-clause-color
returns-clause-color g c =
    made_color c.args.self.now (search rules) (search rules) c.write_operator_word.ensures.0 _ (search (rules, c.finish.ensures.printer))

pub returns-clause-grows : goal.returns-clause-grows
returns-clause-grows g c =
    made_grows c.args.self.now (search rules) (search rules) c.write_operator_word.ensures.0 _ (search (rules, c.finish.ensures.printer))
