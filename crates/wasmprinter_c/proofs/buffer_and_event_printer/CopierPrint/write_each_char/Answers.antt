use Rattle.wasmprinter_print.specs.MadeLaws.{does}
use Rattle.wasmprinter_c.specs.Copied.{copied_meaning}
use Rattle.wasmprinter_c.proofs.buffer_and_event_printer.CopierPrint.write_each_char.Goals as goal

pub returns : goal.returns
returns c = does copied_meaning c.write_str.result _ c.write_str.ensures
