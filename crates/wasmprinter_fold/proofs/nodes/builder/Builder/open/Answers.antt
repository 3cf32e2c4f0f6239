use Rattle.std.proofs.Common.{arith}
use Rattle.wasmprinter_fold.proofs.Blocks.{opens_block}
use Rattle.wasmprinter_fold.proofs.nodes.builder.Builder.open.Goals as goal

pub returns : goal.returns
returns c =
    λ s h.
    opens_block _ _ _ s h _ _ _ _ (omega arith) (omega (arith, c.len-start.ensures, c.args.self.now.nodes.ok.0))
    (omega (arith, c.len.ensures, c.args.self.now.candidates.ok.0)) _ c.in_ok-push.ensures.items
