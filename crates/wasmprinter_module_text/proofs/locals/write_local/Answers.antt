use Rattle.std.proofs.Common.{◌≡◌, ◌+◌, ap, subst}
use Rattle.wasmprinter_spec.specs.Names.{Names}
use Rattle.wasmprinter_ops.specs.ValTypes.{val_type_view}
use Rattle.wasmprinter_text.specs.Variables.{before_next}
use Rattle.wasmprinter_module_text.specs.LocalWalk.{local_parts}
use Rattle.wasmprinter_module_text.proofs.locals.write_local.Goals as goal

pub returns-clause-pieces : goal.returns-clause-pieces
returns-clause-pieces g c =
    subst (λ (n : Names). g.O.Output.wrote c.args.out.now c.write_variable-before.new.out
    (local_parts n c.args.function c.args.position (val_type_view c.args.value_type))) c.identifiers.ensures.all c.write_variable-before.ensures.pieces

pub returns-clause-after : goal.returns-clause-after
returns-clause-after g c =
    ap (λ b. record { before = b; number = c.args.position.number + 1 })
    (subst (λ (n : Names). c.write_variable-before.result ≡ before_next (n.locals c.args.function c.args.position.number)) c.identifiers.ensures.all
    c.write_variable-before.ensures.next)
