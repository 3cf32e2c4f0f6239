use Rattle.std.proofs.Common.{rules, ◌≡◌, true, false, ◌&&◌, ◌==◌, length}
use Rattle.wasmprinter_custom.specs.Shown.{names_of_identifiers}
use Rattle.wasmprinter_text.proofs.Composites.{sub-plain, sub-grouped}
use Rattle.wasmprinter_text.proofs.types.definitions.write_sub_type.Goals as goal

pub returns-then-is_plain : goal.returns-then-is_plain
returns-then-is_plain g c =
    let plain : (c.args.sub_type.now.final && (length c.args.sub_type.now.supertypes == 0)) ≡ true = search rules in
    let wrote = rw c.composite.ensures at c.write_composite_type.ensures in
    rw (sub-plain (names_of_identifiers c.args.identifiers.now) c.args.number c.args.sub_type.now plain) wrote

pub returns-else-is_plain : goal.returns-else-is_plain
returns-else-is_plain g c =
    let plain : (c.args.sub_type.now.final && (length c.args.sub_type.now.supertypes == 0)) ≡ false = search rules in
    rw (sub-grouped (names_of_identifiers c.args.identifiers.now) c.args.number c.args.sub_type.now plain) c.write_sub_group.ensures
