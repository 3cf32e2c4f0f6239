use Rattle.std.proofs.Common.{◌≤◌, ◌+◌, arith, ◌∙◌, length, sym}
use Rattle.std.proofs.lemmas.List.{take_rest}
use Rattle.wasmprinter_spec.specs.Folding.Tree.{front, last}
use Rattle.wasmprinter_spec.proofs.Folding.{row_of_both-front-last}
use Rattle.wasmprinter_fold.specs.Frames.{base}
use Rattle.wasmprinter_fold.proofs.Blocks.{is_end, kept_fits, opens_if}
use Rattle.wasmprinter_fold.proofs.nodes.builder.Builder.open_if.Goals as goal

pub predicate_of-predicate-requires : goal.predicate_of-predicate-requires
predicate_of-predicate-requires c =
    let s = c.requires.0 in
    let h = c.requires.1 in
    let part = c.open_candidates_start-outer.ensures s.outer (c.deref.ensures.value ∙ h.open_blocks) in
    rw (c.deref-2.ensures.value, take_rest)
    (length (base s.outer), s.groups, is_end _ _ _ _ h _ _ part (omega (arith, c.len-start.ensures, c.args.self.now.nodes.ok.0)))

pub overflow_add-candidates_start : goal.overflow_add-candidates_start
overflow_add-candidates_start c =
    let s = c.requires.0 in
    let h = c.requires.1 in
    let part = c.open_candidates_start-outer.ensures s.outer (c.deref.ensures.value ∙ h.open_blocks) in
    let cuts = rw (c.deref-2.ensures.value, take_rest) at c.predicate_of-predicate.ensures in
    let at = cuts (length (base s.outer)) s.groups (is_end _ _ _ _ h _ _ part (omega (arith, c.len-start.ensures, c.args.self.now.nodes.ok.0))) in
    let fits : c.open_candidates_start-outer.result + c.predicate_of-predicate.result.kept ≤ length c.args.self.now.candidates.items =
    kept_fits _ _ _ _ h (front s.groups) (last s.groups) (sym (row_of_both-front-last s.groups)) _ part _ at in
    omega (arith, fits, c.args.self.now.candidates.ok.0)

pub returns : goal.returns
returns c =
    λ s h.
    let part = c.open_candidates_start-outer.ensures s.outer (c.deref.ensures.value ∙ h.open_blocks) in
    let cuts = rw (c.deref-2.ensures.value, take_rest) at c.predicate_of-predicate.ensures in
    let at = cuts (length (base s.outer)) s.groups (is_end _ _ _ _ h _ _ part (omega (arith, c.len-start.ensures, c.args.self.now.nodes.ok.0))) in
    opens_if _ _ _ s h _ _ _ _ _ (omega arith) part _ at (omega (arith, c.len-start.ensures, c.args.self.now.nodes.ok.0)) _ c.truncate.ensures.items _
    c.in_ok-push.ensures.items
