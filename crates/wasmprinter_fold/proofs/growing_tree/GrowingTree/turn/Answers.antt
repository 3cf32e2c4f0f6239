use Rattle.std.proofs.Common.{ap}
use Rattle.std.proofs.lemmas.Result.{on_ok_weaker}
use Rattle.wasmprinter_fold.specs.Building.{Else}
use Rattle.wasmprinter_fold.specs.Shown.{ShownNode}
use Rattle.wasmprinter_fold.proofs.Growing.{shows-more, shows-step}
use Rattle.wasmprinter_fold.proofs.growing_tree.GrowingTree.turn.Goals as goal

pub returns-clause-steps : goal.returns-clause-steps
returns-clause-steps c =
    let e = c.in_ok-head.ensures in
    on_ok_weaker c.turn.result (λ f s h.
    shows-step c.write_keyword.new.self.bytes c.args.self.now.builder c.turn.new.self (Else c.in_ok-head.head) _ s e.inside
    (ap (λ (y : ShownNode). Else y) e.shows) f
    (shows-more c.args.self.now.texts.bytes c.write_keyword.new.self.bytes c.args.self.now.builder s e.grows h)) c.turn.ensures
