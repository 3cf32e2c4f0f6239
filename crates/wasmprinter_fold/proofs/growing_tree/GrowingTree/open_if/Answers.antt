use Rattle.std.proofs.Common.{ap, ap₂, ◌∙◌, Bool, codes}
use Rattle.std.proofs.lemmas.Result.{on_ok_weaker}
use Rattle.wasmprinter_fold.specs.Building.{OpensIf}
use Rattle.wasmprinter_fold.specs.Shown.{ShownNode}
use Rattle.wasmprinter_fold.specs.Growing.{shown_keyword}
use Rattle.wasmprinter_fold.proofs.NodeTexts.{in_grown, shown_grown}
use Rattle.wasmprinter_fold.proofs.Growing.{shows-more, shows-step}
use Rattle.wasmprinter_fold.proofs.growing_tree.GrowingTree.open_if.Goals as goal

pub returns-clause-steps : goal.returns-clause-steps
returns-clause-steps g c =
    let head = c.in_ok-head.head in
    let then = c.in_ok-then.then in
    let e = c.in_ok-head.ensures in
    let k = c.in_ok-then.ensures in
    let first = c.args.self.now.texts.bytes in
    let second = c.write_operator.new.self.bytes in
    let third = c.write_keyword.new.self.bytes in
    on_ok_weaker c.open_if.result (λ f s h.
    shows-step third c.args.self.now.builder c.open_if.new.self (OpensIf head then c.args.counts.results) _ s
    (in_grown second third head k.grows e.inside, k.inside)
    (ap₂ (λ (x y : ShownNode). OpensIf x y c.args.counts.results) (shown_grown second third head k.grows e.inside ∙ e.shows)
    (k.shows ∙ ap (λ (color : Bool). shown_keyword color c.args.next.place (codes "then")) e.color)) f
    (shows-more second third c.args.self.now.builder s k.grows (shows-more first second c.args.self.now.builder s e.grows h))) c.open_if.ensures
