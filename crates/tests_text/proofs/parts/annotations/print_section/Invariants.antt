use Rattle.std.specs.Prelude.{false}
use Rattle.wasmprinter_spec.specs.Options.{with_color}
use Rattle.tests_text.proofs.parts.annotations.print_section.Given as goal

abbrev pub ghosts-print_section_by : goal.ghosts-print_section_by
ghosts-print_section_by a = record { options = with_color a.options.now false }
