use Rattle.wasmprinter.specs.Found.{text_lines}
use Rattle.wasmprinter.proofs.FoundLines.{names, finds}
use Rattle.wasmprinter.proofs.find_operator_line.place_of.Goals as goal

pub returns-clause-at : goal.returns-clause-at
returns-clause-at c =
    names c.args.module.now (text_lines c.args.lines.now) c.args.function c.args.operator c.find.result c.find.ensures

pub returns-clause-finds : goal.returns-clause-finds
returns-clause-finds c =
    finds c.args.module.now (text_lines c.args.lines.now) c.args.function c.args.operator c.find.result c.find.ensures
