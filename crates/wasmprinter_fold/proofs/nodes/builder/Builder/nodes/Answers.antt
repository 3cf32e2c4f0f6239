use Rattle.std.proofs.Common.{ap, ◌∙◌, subst, sym}
use Rattle.wasmprinter_fold.specs.Postorder.{forest_of, IsPostorder}
use Rattle.wasmprinter_fold.proofs.Runs.{stands_whole, stands_closed}
use Rattle.wasmprinter_fold.proofs.nodes.builder.Builder.nodes.Goals as goal

pub returns-clause-whole : goal.returns-clause-whole
returns-clause-whole c = λ s h. subst IsPostorder (sym c.deref.ensures.value) (stands_whole _ _ _ s h)

pub returns-clause-closed : goal.returns-clause-closed
returns-clause-closed c = λ s h e. ap forest_of c.deref.ensures.value ∙ stands_closed _ _ _ s h e
