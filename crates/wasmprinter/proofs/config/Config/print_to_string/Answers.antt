use Rattle.std.proofs.Common.{false, sym, subst}
use Rattle.wasmprinter_print.proofs.TextRuns.{takes_none}
use Rattle.wasmprinter.specs.Plain.{appends}
use Rattle.wasmprinter.specs.Outcome.{IsTextRefusal}
use Rattle.wasmprinter.proofs.Outcomes.{text_refusal}
use Rattle.wasmprinter.proofs.Texts.{printed_text}
use Rattle.wasmprinter.proofs.config.Config.print_to_string.Goals as goal

pub returns-in-Ok-clause-printed : goal.returns-in-Ok-clause-printed
returns-in-Ok-clause-printed c =
    rw c.into_string.ensures (printed_text c.args.self.now c.args.wasm.now _ c.print.new.printer c.new-printer.ensures c.in-Ok.ensures.printed)

pub returns-in-Err-clause-refused : goal.returns-in-Err-clause-refused
returns-in-Err-clause-refused c =
    subst (IsTextRefusal c.args.self.now c.args.wasm.now) (sym c.without_printer.ensures)
    (text_refusal false c.in-Err.ensures.refused (takes_none appends) c.in-Err.ensures.left)
