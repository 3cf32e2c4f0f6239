-- The result for the bytes that reading returned is the result for the file.
use Rattle.std.proofs.Common.{rules, Some, string_bytes}
use Rattle.std.specs.Path.{path_bytes}
use Rattle.wasmprinter_spec.specs.Options.{defaults}
use Rattle.wasmprinter.proofs.TextOfFile.{text_of_file, refused_of_file}
use Rattle.wasmprinter.proofs.file_printing.print_file.Goals as goal

pub returns-clause-printed : goal.returns-clause-printed
returns-clause-printed g c =
    let gave : g.S.Source.may_read c.args.source.now (path_bytes c.args.file) (Some c.in_ok-wasm.wasm.items) = search rules in
    text_of_file string_bytes (g.S.Source.may_read c.args.source.now (path_bytes c.args.file)) c.in_ok-wasm.wasm.items c.print_bytes.result gave
    (rw c.deref.ensures.value at c.print_bytes.ensures.printed)

pub returns-clause-refused : goal.returns-clause-refused
returns-clause-refused g c =
    let gave : g.S.Source.may_read c.args.source.now (path_bytes c.args.file) (Some c.in_ok-wasm.wasm.items) = search rules in
    refused_of_file defaults (g.S.Source.may_read c.args.source.now (path_bytes c.args.file)) c.in_ok-wasm.wasm.items c.print_bytes.result gave
    (rw c.deref.ensures.value at c.print_bytes.ensures.refused) (rw c.deref.ensures.value at c.print_bytes.ensures.component)
