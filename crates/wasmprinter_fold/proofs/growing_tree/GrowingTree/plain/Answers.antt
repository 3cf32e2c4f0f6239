use Rattle.std.proofs.Common.{ap}
use Rattle.std.proofs.lemmas.Result.{on_ok_weaker}
use Rattle.wasmprinter_fold.specs.Building.{Plain}
use Rattle.wasmprinter_fold.specs.Shown.{ShownNode}
use Rattle.wasmprinter_fold.proofs.Growing.{shows-more, shows-step}
use Rattle.wasmprinter_fold.proofs.growing_tree.GrowingTree.plain.Goals as goal

pub returns-clause-steps : goal.returns-clause-steps
returns-clause-steps g c =
    let head = c.in_ok-head.head in
    let e = c.in_ok-head.ensures in
    on_ok_weaker c.plain.result (λ f s h.
    shows-step c.write_operator.new.self.bytes c.args.self.now.builder c.plain.new.self (Plain head c.args.counts.operands c.args.counts.results) _ s e.inside
    (ap (λ (x : ShownNode). Plain x c.args.counts.operands c.args.counts.results) e.shows) f
    (shows-more c.args.self.now.texts.bytes c.write_operator.new.self.bytes c.args.self.now.builder s e.grows h)) c.plain.ensures
