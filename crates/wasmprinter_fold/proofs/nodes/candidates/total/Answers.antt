use Rattle.std.proofs.Common.{ap, sym, ◌∙◌}
use Rattle.wasmprinter_fold.specs.Candidates.{total_of}
use Rattle.wasmprinter_fold.proofs.Candidates.{total-push}
use Rattle.wasmprinter_fold.proofs.nodes.candidates.total.Goals as goal

pub returns-in-Some : goal.returns-in-Some
returns-in-Some c = sym (ap total_of c.in-Some.ensures.cases.0 ∙ total-push c.in-Some.field-0-1.now c.in-Some.last.now)
