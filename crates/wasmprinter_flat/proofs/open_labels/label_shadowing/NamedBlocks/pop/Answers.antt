use Rattle.std.proofs.Common.{sym, ap, ◌∙◌, arith}
use Rattle.std.proofs.lemmas.List.{length-set}
use Rattle.wasmprinter_flat.specs.OpenLabels.Blocks.{block_view}
use Rattle.wasmprinter_flat.proofs.OpenLabels.Kept.{popped, last_view}
use Rattle.wasmprinter_flat.proofs.open_labels.label_shadowing.NamedBlocks.pop.Goals as goal

pub invariant_of-self : goal.invariant_of-self
invariant_of-self c =
    popped c.self.inside.blocks.items c.pop.new.self.items c.in-Some.block c.self.inside.innermost.items _ _ c.in-Some.ensures.items c.self.invariant (omega (arith, c.pop.ensures.capacity))

pub returns-in-Some : goal.returns-in-Some
returns-in-Some c = (
  block_view c.in-Some.block,
  sym (ap (λ s. s.blocks) c.self.view_is) ∙ last_view c.self.inside.blocks.items c.pop.new.self.items c.in-Some.block c.in-Some.ensures.items,
  length-set c.self.inside.innermost.items c.in-Some.block.name_number c.in-Some.block.hides ∙ ap (λ s. s.limit) c.self.view_is,
)
