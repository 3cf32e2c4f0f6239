use Rattle.std.proofs.Common.{◌+◌, List, ◌++◌, append_assoc, append-nil, sym, ap, ◌∙◌}
use Rattle.wasmprinter_spec.specs.Grammar.{Placed}
use Rattle.wasmprinter_spec.specs.Types.{SubType}
use Rattle.wasmprinter_spec.specs.Placed.{TypeGroup}
use Rattle.wasmprinter_decoder.proofs.Flattening.{types_from, types_from-next, types_from-end}
use Rattle.wasmprinter_decoder.proofs.type_section.types_of_groups.Goals as goal

pub loop-group-init : goal.loop-group-init
loop-group-init c = ap (λ (ts : List SubType). ts ++ types_from c.args.groups.now 0) c.new-types.ensures.items

pub loop-group-preserved : goal.loop-group-preserved
loop-group-preserved c =
    let front : List SubType = c.loop-group.types.items in
    let item : Placed TypeGroup = c.group-item.result in
    let rest : List SubType = types_from c.args.groups.now (c.loop-group.group-index + 1) in
    ap (λ (ts : List SubType). ts ++ rest) c.in_ok-add_types.ensures ∙ append_assoc front item.value.types rest
    ∙ ap (λ (ts : List SubType). front ++ ts) (sym (types_from-next c.args.groups.now c.loop-group.group-index item item c.loop-group-test.true c.group-item.is))
    ∙ c.loop-group.invariant

pub returns-clause-ok : goal.returns-clause-ok
returns-clause-ok c =
    sym (append-nil c.loop-group.types.items) ∙ ap (λ (ts : List SubType). c.loop-group.types.items ++ ts) (sym (types_from-end c.args.groups.now c.loop-group.group-index c.loop-group-test.false))
    ∙ c.loop-group.invariant
