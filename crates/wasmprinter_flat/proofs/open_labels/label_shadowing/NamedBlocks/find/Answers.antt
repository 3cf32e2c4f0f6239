use Rattle.std.proofs.Common.{rules, ◌≢◌, ◌<◌, refl, sym, ap, ◌∙◌, subst, arith, length, true, false}
use Rattle.std.proofs.lemmas.List.Sorted.{answers_always}
use Rattle.std.specs.List.{AllByRecursion}
use Rattle.wasmprinter_flat.specs.OpenLabels.Stack.{Block, StandsAtDepth}
use Rattle.wasmprinter_flat.specs.OpenLabels.Blocks.{block_view}
use Rattle.wasmprinter_flat.proofs.OpenLabels.Kept.{found_same, name_number_below, is_shown, is_hidden, is_position, is_other_position, none_at}
use Rattle.wasmprinter_flat.proofs.open_labels.label_shadowing.NamedBlocks.find.Goals as goal

pub index-requires : goal.index-requires
index-requires c =
    let lt : c.in-Ok.position < length c.self.inside.blocks.items = omega (arith, c.in-Ok.ensures.bound, c.deref.ensures.len) in
    omega (arith, name_number_below c.self.inside.blocks.items c.self.inside.innermost.items _ c.in-Ok.position c.args.depth c.index-block.result.now c.self.invariant lt c.index-block.ensures)

pub returns-then-eq-clause-name : goal.returns-then-eq-clause-name
returns-then-eq-clause-name c =
    let lt : c.in-Ok.position < length c.self.inside.blocks.items = omega (arith, c.in-Ok.ensures.bound, c.deref.ensures.len) in
    let same = found_same c.deref.result.now c.self.inside.blocks.items c.in-Ok.position c.args.depth c.index-block.result.now c.deref.ensures.value c.index-block.ensures
    (c.in-Ok.ensures.position (λ b. b.depth) (answers_always _ _ _ (λ f a r g called. search rules))) in
    let is = is_shown c.self.inside.blocks.items c.self.inside.innermost.items _ c.in-Ok.position c.args.depth c.index-block.result.now c.self.invariant lt c.index-block.ensures
    c.index.result.now c.index.ensures same (is_position c.index.result.now c.in-Ok.position (sym c.eq.ensures ∙ c.if-eq.true)) in
    (block_view c.index-block.result.now, subst (λ bs. StandsAtDepth bs c.args.depth (block_view c.index-block.result.now) false) (ap (λ s. s.blocks) c.self.view_is) is, refl)

pub returns-else-eq-clause-name : goal.returns-else-eq-clause-name
returns-else-eq-clause-name c =
    let lt : c.in-Ok.position < length c.self.inside.blocks.items = omega (arith, c.in-Ok.ensures.bound, c.deref.ensures.len) in
    let same = found_same c.deref.result.now c.self.inside.blocks.items c.in-Ok.position c.args.depth c.index-block.result.now c.deref.ensures.value c.index-block.ensures
    (c.in-Ok.ensures.position (λ b. b.depth) (answers_always _ _ _ (λ f a r g called. search rules))) in
    let is = is_hidden c.self.inside.blocks.items c.self.inside.innermost.items _ c.in-Ok.position c.args.depth c.index-block.result.now c.self.invariant lt c.index-block.ensures
    c.index.result.now c.index.ensures same (is_other_position c.index.result.now c.in-Ok.position (sym c.eq.ensures ∙ c.if-eq.false)) in
    (block_view c.index-block.result.now, subst (λ bs. StandsAtDepth bs c.args.depth (block_view c.index-block.result.now) true) (ap (λ s. s.blocks) c.self.view_is) is)

pub returns-in_default-clause-name : goal.returns-in_default-clause-name
returns-in_default-clause-name c =
    subst (AllByRecursion (λ (b : Block). b.depth ≢ c.args.depth)) (ap (λ s. s.blocks) c.self.view_is)
    (none_at c.self.inside.blocks.items c.deref.result.now c.args.depth c.deref.ensures.value c.self.invariant.descend c.in_default.field-0
    (c.in_default.ensures.position (λ b. b.depth) (answers_always _ _ _ (λ f a r g called. search rules))))
