use Rattle.wasmprinter.proofs.Gained.{gains_text}
use Rattle.wasmprinter.proofs.printer_laws.text_printers_gain_the_text.Goals as goal

pub returns : goal.returns
returns g c view grows = gains_text view g.T.PrintText.writes grows
