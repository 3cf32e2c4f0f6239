use Rattle.std.proofs.Common.{arith}
use Rattle.wasmprinter_c.proofs.NameLists.{one_more, shorter}
use Rattle.wasmprinter_c.proofs.omitted_names.cut_place.Goals as goal

pub loop-first-preserved : goal.loop-first-preserved
loop-first-preserved c =
    let before = c.loop-first.invariant in
    let less = shorter _ _ _ c.in-Some.ensures.found in
    ((_, one_more before.0.0 _ _ _ _ before.0.1 c.in-Some.ensures.found), omega (arith, less, before.1))
