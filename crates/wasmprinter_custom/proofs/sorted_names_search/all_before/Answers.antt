use Rattle.std.proofs.Common.{◌+◌, subst, arith}
use Rattle.wasmprinter_custom.specs.Lookups.{AllAreBefore}
use Rattle.wasmprinter_custom.proofs.Lookups.{less_by_lt, all_before}
use Rattle.wasmprinter_custom.proofs.sorted_names_search.all_before.Goals as goal

pub returns-in-Some-get-clause-before : goal.returns-in-Some-get-clause-before
returns-in-Some-get-clause-before c = λ t.
    let all = all_before c.args.entries.now c.requires c.args.key c.in-Some.before c.in-Some-get.field-0.now (omega (arith, c.in-Some-get.ensures)) c.in-Some-get.ensures.lookup.1
    (less_by_lt c.in-Some-get.field-0.now.0 c.args.key c.lt.result c.lt.ensures t) in
    subst (λ n. AllAreBefore c.args.entries.now n c.args.key) {x = c.in-Some.before + 1} {y = c.args.position} (omega (arith, c.in-Some.ensures)) all
