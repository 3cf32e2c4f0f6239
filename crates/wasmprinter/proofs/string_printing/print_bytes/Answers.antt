-- The options are the default options.
use Rattle.std.proofs.Common.{string_bytes}
use Rattle.wasmprinter.proofs.Texts.{default_if_ok}
use Rattle.wasmprinter.proofs.string_printing.print_bytes.Goals as goal

pub returns-clause-printed : goal.returns-clause-printed
returns-clause-printed c = default_if_ok string_bytes c.args.wasm.now c.print_to_string-2.result (rw c.new.ensures at c.print_to_string-2.ensures.printed)
