use Rattle.std.proofs.Common.{sym, ◌∙◌}
use Rattle.wasmprinter_custom.specs.Shown.{names_of_identifiers}
use Rattle.wasmprinter_flat.proofs.OneType.{select-one, select-others}
use Rattle.wasmprinter_flat.proofs.val_and_ref_type_immediates.write_select.Goals as goal

pub returns-in-Some : goal.returns-in-Some
returns-in-Some g c =
    rw (select-one (names_of_identifiers c.args.identifiers.now) c.args.types.now _ (sym c.only_type.ensures ∙ c.in-Some.is)) c.write_result.ensures

pub returns-in-None : goal.returns-in-None
returns-in-None g c =
    rw (select-others (names_of_identifiers c.args.identifiers.now) c.args.types.now (sym c.only_type.ensures ∙ c.in-None.is)) c.write_type_group.ensures
