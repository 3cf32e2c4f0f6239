use Rattle.std.proofs.Common.{ap, sym, ◌∙◌}
use Rattle.wasmprinter_custom.specs.Spaces.{id_of}
use Rattle.wasmprinter_custom.specs.Views.{name_at}
use Rattle.wasmprinter_ops.specs.Shapes.{space_view}
use Rattle.std.specs.Prelude.{option_map}
use Rattle.wasmprinter_flat.specs.Contexts.{names_in}
use Rattle.wasmprinter_flat.proofs.Spaces.{item-named, item-unnamed}
use Rattle.wasmprinter_flat.proofs.immediate_context.Context.identifier.Goals as goal

pub returns-in-Some : goal.returns-in-Some
returns-in-Some g c =
    rw c.from.ensures at c.item.ensures
    ∙ item-named c.identifiers.result (names_in c.args.self.now) c.identifiers.ensures c.args.self.now.setting.now.function (space_view c.args.space) c.args.index c.in-Some.named (ap (option_map id_of) (sym c.in-Some.is) ∙ c.named_space.ensures)

pub returns-in-None : goal.returns-in-None
returns-in-None g c =
    let l = c.args.self.now.labels.now in
    item-unnamed l.synthesizes (name_at l.item_names) c.args.self.now.setting.now.function (space_view c.args.space) c.args.index (ap (option_map id_of) (sym c.in-None.is) ∙ c.named_space.ensures)
