-- The text is empty before the module is printed in color.
use Rattle.std.proofs.Common.{true, sym, subst}
use Rattle.wasmprinter.specs.Outcome.{IsTextRefusal}
use Rattle.wasmprinter.proofs.Outcomes.{text_refusal}
use Rattle.wasmprinter.proofs.Colors.{printed_in_colors}
use Rattle.wasmprinter.proofs.config.Config.print_to_ansi.Goals as goal

pub returns-in-Ok-clause-printed : goal.returns-in-Ok-clause-printed
returns-in-Ok-clause-printed c =
    rw c.into_bytes.ensures (printed_in_colors c.args.self.now c.args.wasm.now _ c.print.new.printer c.new-printer.ensures c.in-Ok.ensures.printed)

pub returns-in-Err-clause-refused : goal.returns-in-Err-clause-refused
returns-in-Err-clause-refused c =
    subst (IsTextRefusal c.args.self.now c.args.wasm.now) (sym c.without_printer.ensures)
    (text_refusal true c.in-Err.ensures.refused (λ s c t h. h.1) c.in-Err.ensures.left)
