use Rattle.std.proofs.Common.{ℕ, ◌<◌, ◌≤◌, length, arith, ap, subst, sym, List, get_or, take}
use Rattle.std.proofs.lemmas.List.{length-take-le}
use Rattle.wasmprinter_spec.specs.Folding.Tree.{operand_search}
use Rattle.wasmprinter_fold.specs.declared.nodes.candidates.Candidate.{Candidate}
use Rattle.wasmprinter_fold.specs.Candidates.{total_of, IsOperandsCut}
use Rattle.wasmprinter_fold.proofs.Candidates.{begins, cut-over, cut-few}
use Rattle.wasmprinter_fold.proofs.nodes.candidates.operands_cut.Goals as goal

pub bounds-row-kept : goal.bounds-row-kept
bounds-row-kept c =
    let found = c.in-From.ensures c.requires.0 c.requires.1 c.requires.2.whole in
    omega (arith, ap length c.requires.2.whole, (begins c.requires.0 _ c.args.results c.args.operands c.requires.1 found).fits)

pub offset_bounds-row-kept : goal.offset_bounds-row-kept
offset_bounds-row-kept c =
    let found = c.in-From.ensures c.requires.0 c.requires.1 c.requires.2.whole in
    let fits : c.in-From.kept < length c.args.row.now =
    omega (arith, ap length c.requires.2.whole, (begins c.requires.0 _ c.args.results c.args.operands c.requires.1 found).fits) in
    omega (arith, fits)

pub slice_bounds-total-end : goal.slice_bounds-total-end
slice_bounds-total-end c =
    let found = c.in-From.ensures c.requires.0 c.requires.1 c.requires.2.whole in
    let fits : c.in-From.kept ≤ length c.args.row.now =
    omega (arith, ap length c.requires.2.whole, (begins c.requires.0 _ c.args.results c.args.operands c.requires.1 found).fits) in
    omega (arith, fits, length-take-le c.in-From.kept c.args.row.now fits)

pub returns-in-From : goal.returns-in-From
returns-in-From c =
    λ first f h.
    let none : Candidate = record { start = 0; sum = 0 } in
    let kept : ℕ = c.in-From.kept in
    let P : List Candidate → Type 0 =
    λ l. IsOperandsCut first f c.args.results (operand_search c.args.operands f)
    (record { kept = kept; start = (get_or l kept none).start; sum = total_of (take kept l) }) c.args.results in
    let Q : ℕ → Type 0 =
    λ n. IsOperandsCut first f c.args.results (operand_search c.args.operands f)
    (record { kept = kept; start = (get_or c.args.row.now kept none).start; sum = n }) c.args.results in
    subst Q (sym c.total.ensures)
    (subst P (sym h.whole) ((begins first _ c.args.results c.args.operands f (c.in-From.ensures first f h.whole)).cut none))

pub returns-in-Overshot : goal.returns-in-Overshot
returns-in-Overshot c =
    λ first f h. cut-over first c.args.results f _ (c.end_of.ensures first f h) (operand_search c.args.operands f) (c.in-Overshot.ensures first f h.whole)

pub returns-in-TooFew : goal.returns-in-TooFew
returns-in-TooFew c =
    λ first f h. cut-few first c.args.results f _ (c.end_of-in-TooFew.ensures first f h) (operand_search c.args.operands f) (c.in-TooFew.ensures first f h.whole)
