use Rattle.std.proofs.Common.{ap, ◌∙◌}
use Rattle.wasmprinter_spec.specs.Names.{Names}
use Rattle.wasmprinter_flat.proofs.immediate_context.Context.field.Goals as goal

pub returns : goal.returns
returns g c =
    rw (c.from.ensures, c.from-2.ensures) at c.item.ensures
    ∙ ap (λ (names : Names). names.fields c.args.type_index c.args.field) c.identifiers.ensures
