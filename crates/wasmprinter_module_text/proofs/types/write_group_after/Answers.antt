use Rattle.std.proofs.Common.{rules, ◌≡◌, true, false}
use Rattle.wasmprinter_flat.specs.OpenLabels.LabelState.{names_of}
use Rattle.wasmprinter_module_text.proofs.TypeFields.{group-written, group-bare}
use Rattle.wasmprinter_module_text.proofs.types.write_group_after.Goals as goal

pub returns-then-is_explicit : goal.returns-then-is_explicit
returns-then-is_explicit g c =
    let written : c.args.group.now.value.explicit ≡ true = search rules in
    rw (group-written (names_of c.args.scope.now.labels) c.args.group.now.value.explicit c.args.group.now.place c.args.first c.args.group.now.value.types written) c.write_rec.ensures

pub returns-else-is_explicit : goal.returns-else-is_explicit
returns-else-is_explicit g c =
    let bare : c.args.group.now.value.explicit ≡ false = search rules in
    rw (group-bare (names_of c.args.scope.now.labels) c.args.group.now.value.explicit c.args.group.now.place c.args.first c.args.group.now.value.types bare) c.write_types.ensures
