use Rattle.std.proofs.Common.{◌∙◌, sym}
use Rattle.wasmprinter_c.proofs.NameLists.{next_left, found_left, none_left}
use Rattle.wasmprinter_c.proofs.omitted_names.is_listed.Goals as goal

pub returns-then-eq : goal.returns-then-eq
returns-then-eq c =
    found_left c.args.name.now c.args.list.now c.loop-first.rest.now c.in-Some.first.name.now c.in-Some.first.rest.now c.loop-first.invariant
    c.in-Some.ensures.found (sym c.eq.ensures ∙ c.if-eq.true)

pub loop-first-preserved : goal.loop-first-preserved
loop-first-preserved c =
    next_left c.args.name.now c.args.list.now c.loop-first.rest.now c.in-Some.first.name.now c.in-Some.first.rest.now c.loop-first.invariant
    c.in-Some.ensures.found (sym c.eq.ensures ∙ c.if-eq.false)

pub returns : goal.returns
returns c = none_left c.args.name.now c.args.list.now c.loop-first.rest.now c.loop-first.invariant c.in_default.ensures.none
