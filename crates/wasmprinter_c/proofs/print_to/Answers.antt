-- The state of the printer over a buffer after the calls.
use Rattle.wasmprinter_c.proofs.Runs.{on_ok_over}
use Rattle.wasmprinter_c.proofs.Left.{either_same, if_err_refusal, if_err_left}
use Rattle.wasmprinter_c.proofs.print_to.Goals as goal

pub returns-clause-same_buffer : goal.returns-clause-same_buffer
returns-clause-same_buffer c =
    (either_same c.args.copier.now (record { text = c.requires.no_text; table = c.requires.no_event }) c.args.config.now c.args.wasm.now c.print.new.printer c.print.result c.print.ensures.printed c.print.ensures.left).buffer

pub returns-clause-same_table : goal.returns-clause-same_table
returns-clause-same_table c =
    (either_same c.args.copier.now (record { text = c.requires.no_text; table = c.requires.no_event }) c.args.config.now c.args.wasm.now c.print.new.printer c.print.result c.print.ensures.printed c.print.ensures.left).table

pub returns-clause-printed : goal.returns-clause-printed
returns-clause-printed c =
    λ names listed.
    on_ok_over names c.args.config.now c.args.wasm.now c.args.copier.now c.print.new.printer c.print.result listed (record { text = c.requires.no_text; table = c.requires.no_event }) c.print.ensures.printed

pub returns-clause-refused : goal.returns-clause-refused
returns-clause-refused c =
    λ names listed.
    if_err_refusal c.args.copier.now (record { text = c.requires.no_text; table = c.requires.no_event }) names listed c.args.config.now c.args.wasm.now c.print.new.printer c.print.result c.print.ensures.left c.print.ensures.refused

pub returns-clause-left : goal.returns-clause-left
returns-clause-left c =
    λ names listed.
    if_err_left c.args.copier.now (record { text = c.requires.no_text; table = c.requires.no_event }) names listed c.args.config.now c.args.wasm.now c.print.new.printer c.print.result c.print.ensures.left
