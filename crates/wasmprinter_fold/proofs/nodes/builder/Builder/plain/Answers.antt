use Rattle.std.proofs.Common.{◌≤◌, ◌+◌, List, [], ◌∷◌, ◌++◌, arith, ap, ◌∙◌, length}
use Rattle.std.proofs.lemmas.List.{take_rest}
use Rattle.std.proofs.lemmas.Result.{on_ok_weaker}
use Rattle.wasmprinter_fold.specs.declared.nodes.candidates.Candidate.{Candidate}
use Rattle.wasmprinter_fold.specs.Candidates.{candidate_after}
use Rattle.wasmprinter_fold.specs.Frames.{base}
use Rattle.wasmprinter_fold.proofs.Blocks.{is_end, adds_plain}
use Rattle.wasmprinter_fold.proofs.nodes.builder.Builder.plain.Goals as goal

pub operands_cut-counted-requires : goal.operands_cut-counted-requires
operands_cut-counted-requires c =
    let s = c.requires.0 in
    let h = c.requires.1 in
    let part = c.open_candidates_start-part.ensures s.outer (c.deref.ensures.value ∙ h.open_blocks) in
    rw (c.deref-2.ensures.value, take_rest)
    (length (base s.outer), s.groups, is_end _ _ _ _ h _ _ part (omega (arith, c.len-end.ensures, c.args.self.now.nodes.ok.0)))

pub wrap-requires : goal.wrap-requires
wrap-requires c =
    let h = c.requires.1 in
    let part = c.open_candidates_start-part.ensures c.requires.0.outer (c.deref.ensures.value ∙ h.open_blocks) in
    let cut = rw (c.deref-2.ensures.value, take_rest) at c.operands_cut-counted.ensures in
    (adds_plain _ _ _ _ h c.args.head _ c.args.results _ _ part (omega (arith, c.len-end.ensures, c.args.self.now.nodes.ok.0)) _ _ (omega arith) cut).fits

pub overflow_add-part : goal.overflow_add-part
overflow_add-part c =
    let h = c.requires.1 in
    let part = c.open_candidates_start-part.ensures c.requires.0.outer (c.deref.ensures.value ∙ h.open_blocks) in
    let cut = rw (c.deref-2.ensures.value, take_rest) at c.operands_cut-counted.ensures in
    let within : c.open_candidates_start-part.result + c.operands_cut-counted.result.0.kept ≤ length c.args.self.now.candidates.items =
    (adds_plain _ _ _ _ h c.args.head _ c.args.results _ _ part (omega (arith, c.len-end.ensures, c.args.self.now.nodes.ok.0)) _ _ (omega arith) cut).within in
    omega (arith, within, c.args.self.now.candidates.ok.0)

pub push_candidate-requires : goal.push_candidate-requires
push_candidate-requires c =
    let s = c.requires.0 in
    let h = c.requires.1 in
    let part = c.open_candidates_start-part.ensures s.outer (c.deref.ensures.value ∙ h.open_blocks) in
    let cut = rw (c.deref-2.ensures.value, take_rest) at c.operands_cut-counted.ensures in
    let adds =
    adds_plain _ _ _ _ h c.args.head _ c.args.results _ _ part (omega (arith, c.len-end.ensures, c.args.self.now.nodes.ok.0)) _ _ (omega arith) cut in
    (length (base s.outer), adds.before, adds.cuts, adds.limited)

pub returns : goal.returns
returns c =
    on_ok_weaker c.push_candidate.result
    (λ e s h.
    let part = c.open_candidates_start-part.ensures s.outer (c.deref.ensures.value ∙ h.open_blocks) in
    let cut = rw (c.deref-2.ensures.value, take_rest) at c.operands_cut-counted.ensures in
    let adds =
    adds_plain _ _ _ _ h c.args.head _ c.args.results _ _ part (omega (arith, c.len-end.ensures, c.args.self.now.nodes.ok.0)) _ _ (omega arith) cut in
    let next : Candidate = candidate_after (length (base s.outer)) adds.before c.operands_cut-counted.result.1 in
    adds.stands _ _ c.in_ok-wrap.ensures
    (◌∙◌ {b = c.truncate.new.self.items ++ next ∷ []} (e (length (base s.outer)) adds.before adds.cuts)
    (ap (λ (l : List Candidate). l ++ next ∷ []) c.truncate.ensures.items)))
    c.push_candidate.ensures
