use Rattle.wasmprinter_flat.specs.OpenLabels.LabelState.{names_of}
use Rattle.wasmprinter_module_text.specs.Sections.{inner_parts}
use Rattle.wasmprinter_module_text.proofs.Folding.{folding-of}
use Rattle.wasmprinter_module_text.proofs.ModuleParts.{module_walk}
use Rattle.wasmprinter_module_text.proofs.whole_module.write_module.Goals as goal

pub returns : goal.returns
returns g c folds =
    let o = g.O.Output.chosen in
    let law = g.met.O.Output in
    let names = names_of c.args.labels in
    let m = c.args.module.now in
    let (first, several, many, written) = rw (c.imported_count.ensures.is, folding-of o c.args.folder m folds) at c.write_sections.ensures in
    let (answers, same) = module_walk o names m first several many in
    let parts = law.part_then _ _ _ _ _ (law.part_of _ _ _ (rw (c.module.ensures, c.identifiers.ensures.item_names) at c.write_leading_id_and_name.ensures))
    (rw same at written) in (
      answers,
      law.part_then _ _ _ _ _ (law.part_of _ _ _ c.start_first_line.ensures) (law.part_then _ _ _ _ _ (law.part_of _ _ _ c.open_group.ensures)
          (law.parts_then _ _ _ _ _
          (law.parts_at_of _ _ _ _ _ m.size 0 (inner_parts o answers names m) c.enter_group-outer_begun.ensures parts (rw c.size.ensures at c.close_group_at.ensures))
          (law.part_of _ _ _ c.end_last_line.ensures))),
    )
