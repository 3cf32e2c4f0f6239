-- The text and the lines that the tracker kept, and the result of `finish`.
use Rattle.std.proofs.Common.{rules, ◌≡◌, false, string_bytes, sym, ap, ◌∙◌, subst}
use Rattle.wasmprinter_writers.specs.Cuts.{lines_at_starts}
use Rattle.wasmprinter_writers.specs.Tracked.{without_lines}
use Rattle.wasmprinter_writers.proofs.LineRuns.{claims_never}
use Rattle.wasmprinter_bytes.specs.declared.library_error.Error.TheVariants.{Memory}
use Rattle.wasmprinter.specs.Lined.{HasLinesBy, LeavesStorage}
use Rattle.wasmprinter.specs.Outcome.{IsTextRefusal, without_printer}
use Rattle.wasmprinter.proofs.Outcomes.{text_refusal}
use Rattle.wasmprinter.proofs.TrackedLines.{told_as, handed_on_as, leaves_as, printed_leaves, memory_refusal, finished_lines, refusal_leaves}
use Rattle.wasmprinter.proofs.config.Config.print_with_line_starts.Goals as goal

pub returns-in-Ok-clause-lines : goal.returns-in-Ok-clause-lines
returns-in-Ok-clause-lines c =
    let base = string_bytes c.args.storage.now in
    let text = string_bytes c.finish-text.result.0 in
    let begun : c.new-printer.result ≡ without_lines base = c.new-printer.ensures ∙ ap (λ s. without_lines (string_bytes s)) c.replace-text.ensures.value in
    handed_on_as _ (λ starts. HasLinesBy c.args.self.now c.args.wasm.now base text (lines_at_starts starts.items text)) c.finish-text.result.1 c.map_err.result c.map_err.ensures.cases
    (finished_lines c.args.self.now c.args.wasm.now base text c.new-printer.result c.print-printed.new.printer begun c.finish-text.ensures.text (λ starts. starts.items) c.finish-text.result.1
    c.in-Ok.ensures.printed c.finish-text.ensures.none_lost c.finish-text.ensures.lines)

pub returns-in-Ok-clause-refused : goal.returns-in-Ok-clause-refused
returns-in-Ok-clause-refused c =
    told_as _ (λ e y h. search rules) c.finish-text.result.1 c.map_err.result c.map_err.ensures.cases (IsTextRefusal c.args.self.now c.args.wasm.now)
    (memory_refusal c.in-Ok.ensures.printed)

pub returns-in-Ok-clause-left : goal.returns-in-Ok-clause-left
returns-in-Ok-clause-left c =
    let base = string_bytes c.args.storage.now in
    let text = string_bytes c.finish-text.result.0 in
    let begun : c.new-printer.result ≡ without_lines base = c.new-printer.ensures ∙ ap (λ s. without_lines (string_bytes s)) c.replace-text.ensures.value in
    told_as _ (λ e y h. search rules) c.finish-text.result.1 c.map_err.result c.map_err.ensures.cases (λ e. LeavesStorage c.args.self.now c.args.wasm.now e base text)
    (leaves_as c.args.self.now c.args.wasm.now base text c.new-printer.result c.print-printed.new.printer begun c.finish-text.ensures.text Memory
    (printed_leaves c.args.self.now c.args.wasm.now c.new-printer.result c.print-printed.new.printer c.in-Ok.ensures.printed))

pub returns-in-Err-clause-refused : goal.returns-in-Err-clause-refused
returns-in-Err-clause-refused c =
    subst (IsTextRefusal c.args.self.now c.args.wasm.now) (sym c.without_printer.ensures)
    (text_refusal false c.in-Err.ensures.refused claims_never c.in-Err.ensures.left)

pub returns-in-Err-clause-left : goal.returns-in-Err-clause-left
returns-in-Err-clause-left c =
    let base = string_bytes c.args.storage.now in
    let text = string_bytes c.finish-text.result.0 in
    let begun : c.new-printer.result ≡ without_lines base = c.new-printer.ensures ∙ ap (λ s. without_lines (string_bytes s)) c.replace-text.ensures.value in
    subst (λ e. LeavesStorage c.args.self.now c.args.wasm.now e base text) (sym c.without_printer.ensures)
    (leaves_as c.args.self.now c.args.wasm.now base text c.new-printer.result c.print-printed.new.printer begun c.finish-text.ensures.text (without_printer c.in-Err.error)
    (refusal_leaves c.args.self.now c.args.wasm.now c.new-printer.result c.print-printed.new.printer c.in-Err.error c.in-Err.ensures.left))
