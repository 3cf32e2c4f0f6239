use Rattle.wasmprinter_fold.proofs.TextLaws.{made_adds}
use Rattle.wasmprinter_fold.proofs.NodeTexts.{entered_in, entered_shown}
use Rattle.wasmprinter_fold.proofs.node_text.text_buffer.Texts.write_operator.Goals as goal

pub returns-clause-inside : goal.returns-clause-inside
returns-clause-inside g c =
    entered_in c.args.self.now c.begin-start.new.self _ c.args.next.place c.begin-start.result c.args.next.hint _ c.begin-start.ensures.buffer c.begin-start.ensures.start
    (made_adds _ _ _ c.in_ok-push_operator.ensures.made) c.head.result c.head.ensures

pub returns-clause-shows : goal.returns-clause-shows
returns-clause-shows g c =
    entered_shown c.args.self.now c.begin-start.new.self _ c.args.next.place c.begin-start.result c.args.next.hint _ c.begin-start.ensures.buffer c.begin-start.ensures.start
    (made_adds _ _ _ c.in_ok-push_operator.ensures.made) c.head.result c.head.ensures
