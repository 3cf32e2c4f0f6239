-- The lines are all lines of the iterator, and the header is one of them.
use Rattle.std.specs.Prelude.{◌≡◌, ◌<◌, ℕ, Ok, IfSome, length}
use Rattle.std.proofs.Common.{string_bytes, refl, sym, ◌∙◌, subst}
use Rattle.std.proofs.lemmas.Iterator.Consumers.{map_from_collect, YieldsList-from_first}
use Rattle.std.proofs.lemmas.Result.{IfOk-weaker}
use Rattle.wasmprinter_spec.specs.Lines.{line_places}
use Rattle.wasmprinter.specs.Found.{text_lines}
use Rattle.wasm2text.specs.Excerpt.{ShowsByte, IsHeader}
use Rattle.wasm2text.proofs.Excerpts.{header_within, excerpt_of_collected}
use Rattle.wasm2text.proofs.excerpt.excerpt_of_lines.Goals as goal

pub excerpt_around-requires-clause-header : goal.excerpt_around-requires-clause-header
excerpt_around-requires-clause-header c =
    subst (λ ls. IfSome c.header_of_byte-header.result (λ h. h < length ls)) (c.deref-2.ensures.value ∙ sym c.deref-3.ensures.value)
    (header_within c.in_ok-module.module c.deref-2.result.now c.args.offset c.header_of_byte-header.result c.header_of_byte-header.ensures)

pub returns : goal.returns
returns c =
    let m = c.in_ok-module.module in
    let lines = c.in_ok-lines.lines.items in
    let all : text_lines lines ≡ c.args.lines.lines =
    map_from_collect {E = ℕ} (Ok c.in_ok-lines.lines) c.in_ok-lines.ensures.ran
    (YieldsList-from_first (λ line. (line.0, line.1.now)) (λ it. it.lines) c.args.lines.lines refl) in
    let shows : ShowsByte (line_places (text_lines lines)) c.args.offset c.line_of_byte-shown.result = rw c.deref.ensures.value at c.line_of_byte-shown.ensures in
    let is_header : IsHeader m (text_lines lines) c.args.offset c.header_of_byte-header.result = rw c.deref-2.ensures.value at c.header_of_byte-header.ensures in
    IfOk-weaker c.excerpt_around.result _ _
    (λ text is. excerpt_of_collected c.args.wasm.now m lines c.args.lines.lines c.args.offset c.line_of_byte-shown.result c.header_of_byte-header.result
    (string_bytes text) c.in_ok-module.ensures all shows is_header is)
    (rw c.deref-3.ensures.value at c.excerpt_around.ensures)
