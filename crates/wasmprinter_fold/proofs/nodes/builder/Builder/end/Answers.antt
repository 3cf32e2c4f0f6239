use Rattle.std.proofs.Common.{◌≤◌, List, [], ◌∷◌, ◌++◌, arith, ap, ◌∙◌, length}
use Rattle.std.proofs.lemmas.List.{take_rest}
use Rattle.wasmprinter_fold.specs.declared.nodes.candidates.Candidate.{Candidate}
use Rattle.wasmprinter_fold.specs.Candidates.{candidate_after}
use Rattle.wasmprinter_fold.specs.Frames.{base}
use Rattle.wasmprinter_fold.proofs.Blocks.{closes}
use Rattle.wasmprinter_fold.proofs.nodes.builder.Builder.end.Goals as goal

pub wrap_block-requires-clause-case : goal.wrap_block-requires-clause-case
wrap_block-requires-clause-case c = (closes _ _ _ _ _ _ c.requires.1 c.in-Some.ensures.items).fits

pub wrap_block-requires-clause-whole : goal.wrap_block-requires-clause-whole
wrap_block-requires-clause-whole c = (closes _ _ _ _ _ _ c.requires.1 c.in-Some.ensures.items).in_order

pub open_candidates_start-part-requires : goal.open_candidates_start-part-requires
open_candidates_start-part-requires c =
    let closed = closes _ _ _ _ _ _ c.requires.1 c.in-Some.ensures.items in
    (closed.outer, c.deref.ensures.value ∙ closed.open_blocks)

pub offset_bounds-deref-part : goal.offset_bounds-deref-part
offset_bounds-deref-part c =
    let closed = closes _ _ _ _ _ _ c.requires.1 c.in-Some.ensures.items in
    let part = c.open_candidates_start-part.ensures closed.outer (c.deref.ensures.value ∙ closed.open_blocks) in
    let within : c.open_candidates_start-part.result ≤ length c.truncate.new.self.items =
    omega (arith, part, closed.part_fits, ap length c.truncate.ensures.items) in
    omega (arith, within, c.truncate.new.self.ok.0)

pub slice_bounds-end_of-count : goal.slice_bounds-end_of-count
slice_bounds-end_of-count c =
    let closed = closes _ _ _ _ _ _ c.requires.1 c.in-Some.ensures.items in
    let part = c.open_candidates_start-part.ensures closed.outer (c.deref.ensures.value ∙ closed.open_blocks) in
    omega (arith, part, closed.part_fits, ap length c.truncate.ensures.items, ap length c.deref-in-Some.ensures.value)

pub slice_bounds-end_of-start : goal.slice_bounds-end_of-start
slice_bounds-end_of-start c =
    let closed = closes _ _ _ _ _ _ c.requires.1 c.in-Some.ensures.items in
    let part = c.open_candidates_start-part.ensures closed.outer (c.deref.ensures.value ∙ closed.open_blocks) in
    omega (arith, part, closed.part_fits, ap length c.truncate.ensures.items, ap length c.deref-in-Some.ensures.value)

pub push_candidate-requires : goal.push_candidate-requires
push_candidate-requires c =
    let closed = closes _ _ _ _ _ _ c.requires.1 c.in-Some.ensures.items in
    let part = c.open_candidates_start-part.ensures closed.outer (c.deref.ensures.value ∙ closed.open_blocks) in
    let cut = rw (c.deref-in-Some.ensures.value, c.truncate.ensures.items, take_rest) at c.end_of-cut.ensures in
    (length (base closed.outer), closed.before, cut (length (base closed.outer)) closed.before (closed.open_end _ part), closed.limited)

pub returns-in_ok-push_candidate : goal.returns-in_ok-push_candidate
returns-in_ok-push_candidate c =
    λ s h.
    let closed = closes _ _ _ _ _ s h c.in-Some.ensures.items in
    let part = c.open_candidates_start-part.ensures closed.outer (c.deref.ensures.value ∙ closed.open_blocks) in
    let cut = rw (c.deref-in-Some.ensures.value, c.truncate.ensures.items, take_rest) at c.end_of-cut.ensures in
    let first = length (base closed.outer) in
    let next : Candidate = candidate_after first closed.before c.in-Some.frame.results in
    closed.stands _ _ c.in_ok-wrap_block.ensures
    (c.in_ok-push_candidate.ensures first closed.before (cut first closed.before (closed.open_end _ part))
    ∙ ap (λ (l : List Candidate). l ++ next ∷ []) c.truncate.ensures.items)
