use Rattle.std.proofs.Common.{refl}
use Rattle.std.proofs.lemmas.Result.{on_ok_weaker}
use Rattle.wasmprinter_fold.specs.Building.{Ends}
use Rattle.wasmprinter_fold.proofs.Growing.{shows-step}
use Rattle.wasmprinter_fold.proofs.growing_tree.GrowingTree.end.Goals as goal

pub returns-clause-steps : goal.returns-clause-steps
returns-clause-steps c =
    on_ok_weaker c.end.result (λ f s h.
    shows-step c.args.self.now.texts.bytes c.args.self.now.builder c.end.new.self Ends Ends s tt refl f h) c.end.ensures
