use Rattle.std.proofs.Common.{rules, refl}
use Rattle.wasmprinter_flat.specs.OpenLabels.LabelState.{names_of}
use Rattle.wasmprinter_module_text.proofs.WholeModule.{printed}
use Rattle.wasmprinter_module_text.proofs.module_printing.print_by.Goals as goal

pub returns : goal.returns
returns g c =
    let (answers, laid) = c.write_module.ensures c.requires.folder in
    (answers, rw c.finish.ensures.result (printed g.P.Print.meaning g.K.LayoutOptions.options _ answers (names_of c.args.labels) c.args.module.now (search rules) (search rules) (search (rules, c.finish.ensures.printer)) refl laid.0))
