use Rattle.wasmprinter_spec.specs.Options.{with_color}
use Rattle.wasmprinter_module_text.proofs.module_printing.print_module.Given as goal

abbrev pub ghosts-print_by : goal.ghosts-print_by
ghosts-print_by g a = record { options = with_color a.options.now (g.P.Print.colors a.p.now) }
