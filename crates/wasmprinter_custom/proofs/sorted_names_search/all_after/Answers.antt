use Rattle.std.proofs.Common.{arith}
use Rattle.wasmprinter_custom.proofs.Lookups.{less_by_lt, all_after}
use Rattle.wasmprinter_custom.proofs.sorted_names_search.all_after.Goals as goal

pub returns-in-Some : goal.returns-in-Some
returns-in-Some c = λ t.
    all_after c.args.entries.now c.requires c.args.key c.args.position c.in-Some.field-0.now (omega (arith, c.in-Some.ensures)) c.in-Some.ensures.lookup.1
    (less_by_lt c.args.key c.in-Some.field-0.now.0 c.lt.result c.lt.ensures t)
