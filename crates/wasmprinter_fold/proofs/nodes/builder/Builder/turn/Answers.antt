use Rattle.std.proofs.Common.{◌≡◌, length, arith}
use Rattle.wasmprinter_fold.proofs.Blocks.{turns}
use Rattle.wasmprinter_fold.proofs.nodes.builder.Builder.turn.Goals as goal

pub wrap-requires : goal.wrap-requires
wrap-requires c = (turns _ _ _ _ _ _ c.requires.1 c.in-Some.ensures.items _ c.args.otherwise c.in-Then.is).fits

pub returns-in_ok-push-in-Then : goal.returns-in_ok-push-in-Then
returns-in_ok-push-in-Then c =
    λ s h.
    let stands = (turns _ _ _ _ _ s h c.in-Some.ensures.items _ c.args.otherwise c.in-Then.is).stands _ c.in_ok-wrap-in-Then.ensures in
    let at : c.len-start.result ≡ length c.wrap.new.nodes.items =
    omega (arith, c.len-start.ensures, c.wrap.new.nodes.ok.0) in
    rw (c.in_ok-push-in-Then.ensures.items, at, c.truncate.ensures.items) stands
