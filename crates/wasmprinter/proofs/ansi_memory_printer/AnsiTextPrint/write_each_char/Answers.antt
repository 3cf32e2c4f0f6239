use Rattle.wasmprinter_print.specs.MadeLaws.{does}
use Rattle.wasmprinter.specs.AnsiText.{ansi_text_meaning}
use Rattle.wasmprinter.proofs.ansi_memory_printer.AnsiTextPrint.write_each_char.Goals as goal

pub returns : goal.returns
returns c = does ansi_text_meaning c.write_str.result _ c.write_str.ensures
