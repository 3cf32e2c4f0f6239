use Rattle.std.proofs.Common.{arith}
use Rattle.wasmprinter_custom.proofs.Lookups.{same_by_eq, found, none_there}
use Rattle.wasmprinter_custom.proofs.sorted_names_search.find.Goals as goal

pub returns-in-Some : goal.returns-in-Some
returns-in-Some c =
    found c.args.entries.now c.requires c.args.key c.args.guess c.in-Some.field-0.now (omega (arith, c.in-Some.ensures)) c.in-Some.ensures.lookup.1
    (same_by_eq c.in-Some.field-0.now.0 c.args.key c.eq.result c.eq.ensures c.if-eq.true)

pub returns-in_default : goal.returns-in_default
returns-in_default c = none_there c.args.entries.now c.args.key c.args.guess (c.all_before.ensures.before c.if-all_before.true) (c.all_after.ensures c.if-all_after.true)
