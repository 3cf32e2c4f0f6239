use Rattle.std.proofs.Common.{false}
use Rattle.wasmprinter_spec.specs.Options.{with_color}
use Rattle.wasmprinter_flat.specs.OpenLabels.LabelState.{names_of}
use Rattle.wasmprinter_module_text.specs.Sections.{module_laid}
use Rattle.wasmprinter_module_text.proofs.WholeModule.{stops_first}
use Rattle.wasmprinter_module_text.proofs.module_printing.print_module.Goals as goal

pub returns-in_err-folder : goal.returns-in_err-folder
returns-in_err-folder g c =
    let by = with_color c.args.options.now (g.P.Print.colors c.args.p.now) in
    let memory = c.in_err-folder.ensures.memory in (
      (λ n. false),
      stops_first g.P.Print.meaning by c.args.p.now c.from_residual.result (module_laid by (λ n. false) (names_of c.args.labels) c.args.module.now)
          memory.1 memory.0 c.from_residual.ensures.1,
    )
