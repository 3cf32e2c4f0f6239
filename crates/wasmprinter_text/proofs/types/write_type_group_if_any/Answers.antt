use Rattle.std.proofs.Common.{sym, ◌∙◌}
use Rattle.wasmprinter_custom.specs.Shown.{names_of_identifiers}
use Rattle.wasmprinter_text.proofs.TypeLists.{list_group-none, list_group-some}
use Rattle.wasmprinter_text.proofs.types.write_type_group_if_any.Goals as goal

pub returns-else-len-ne0 : goal.returns-else-len-ne0
returns-else-len-ne0 g c =
    let none = list_group-none (names_of_identifiers c.args.identifiers.now) c.args.keyword.now c.args.types.now (sym c.len.ensures ∙ c.if-len-ne0.false) in
    rw none (g.met.O.Output.no_piece _)

pub returns-then-len-ne0 : goal.returns-then-len-ne0
returns-then-len-ne0 g c =
    let some = list_group-some (names_of_identifiers c.args.identifiers.now) c.args.keyword.now c.args.types.now (λ e. c.if-len-ne0.true (c.len.ensures ∙ e)) in
    rw some c.write_type_group.ensures
