use Rattle.std.proofs.Common.{ℕ, ◌+◌, [], ◌∷◌, ◌++◌, arith, ap, ◌∙◌}
use Rattle.wasmprinter_fold.specs.declared.nodes.candidates.Candidate.{Candidate}
use Rattle.wasmprinter_fold.proofs.Candidates.{sum_fits, next-is}
use Rattle.wasmprinter_fold.proofs.nodes.candidates.push_candidate.Goals as goal

pub overflow_add-cut : goal.overflow_add-cut
overflow_add-cut c =
    omega (arith, c.from.ensures, sum_fits c.requires.0 c.args.results c.requires.1 c.args.cut c.requires.2 c.requires.3 (omega arith) (omega arith))

pub returns : goal.returns
returns c =
    λ first f h.
    let counted = ap (λ (n : ℕ). record { start = c.args.cut.start; sum = c.args.cut.sum + n }) c.from.ensures in
    c.in_ok-push.ensures.items
    ∙ ap (λ (x : Candidate). c.args.all.now.items ++ x ∷ []) (counted ∙ next-is first c.args.results f c.args.cut h)
