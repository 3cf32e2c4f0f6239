use Rattle.std.specs.Prelude.{None}
use Rattle.wasmprinter_fold.proofs.TextLaws.{text_adds}
use Rattle.wasmprinter_fold.proofs.NodeTexts.{entered_in, entered_shown}
use Rattle.wasmprinter_fold.proofs.node_text.text_buffer.Texts.write_keyword.Goals as goal

pub returns-clause-inside : goal.returns-clause-inside
returns-clause-inside c =
    entered_in c.args.self.now c.begin-start.new.self _ c.args.place c.begin-start.result None _ c.begin-start.ensures.buffer c.begin-start.ensures.start
    (text_adds _ _ _ c.utf8.keyword c.in_ok-push_text.ensures.ok) c.head.result c.head.ensures

pub returns-clause-shows : goal.returns-clause-shows
returns-clause-shows c =
    entered_shown c.args.self.now c.begin-start.new.self _ c.args.place c.begin-start.result None _ c.begin-start.ensures.buffer c.begin-start.ensures.start
    (text_adds _ _ _ c.utf8.keyword c.in_ok-push_text.ensures.ok) c.head.result c.head.ensures
