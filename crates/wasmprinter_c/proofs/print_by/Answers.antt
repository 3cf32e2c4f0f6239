-- The outcomes of a component, of an indent that was not copied, of a printed module, and of an error of printing.
use Rattle.std.proofs.Common.{◌∙◌, refl, sym, ap, subst, true≢false}
use Rattle.wasmprinter_c.specs.Printing.{options_of, request_of, buffers}
use Rattle.wasmprinter_c.specs.Refused.{IsCopied}
use Rattle.wasmprinter_c.proofs.Outcomes.{marked_by, uncopied_by, refused_by, printed_by}
use Rattle.wasmprinter_c.proofs.print_by.Goals as goal

pub returns-then-is_component : goal.returns-then-is_component
returns-then-is_component c =
    let unchanged = buffers c.args.out.now c.args.out.now c.args.table.now c.args.table.now in
    marked_by c.args.wasm.now unchanged c.refused.result (request_of c.args.asked.flags c.args.asked.indent.now c.args.asked.limit c.args.asked.omitted.now) refl
    (c.is_component.ensures.0 c.if-is_component.true) c.refused.ensures

pub returns-in_default-indented : goal.returns-in_default-indented
returns-in_default-indented c =
    let unchanged = buffers c.args.out.now c.args.out.now c.args.table.now c.args.table.now in
    uncopied_by c.args.wasm.now unchanged c.refused-in_default-indented.result
    (request_of c.args.asked.flags c.args.asked.indent.now c.args.asked.limit c.args.asked.omitted.now) refl
    (λ marked. true≢false (sym (c.is_component.ensures.1 marked) ∙ c.if-is_component.false)) c.in-Ok.ensures.cases.1 c.in_default-cut_place.ensures.whole
    (subst IsCopied c.in-Ok.ensures.cases.0 c.in_default-indented.ensures.copied) c.refused-in_default-indented.ensures

pub returns-in-Ok-print_over : goal.returns-in-Ok-print_over
returns-in-Ok-print_over c =
    let written = buffers c.args.out.now c.print_over.new.out c.args.table.now c.print_over.new.table in
    let whole = c.in_default-cut_place.ensures.whole in
    printed_by c.args.wasm.now written (request_of c.args.asked.flags c.args.asked.indent.now c.args.asked.limit c.args.asked.omitted.now) c.in-Ok-indented.config
    c.in-Ok-print_over.extent.length c.in-Ok-print_over.extent.count
    (c.in-Ok-indented.ensures.options_of ∙ ap (options_of c.args.asked.flags) c.in-Ok.ensures.cases.0)
    (λ marked. true≢false (sym (c.is_component.ensures.1 marked) ∙ c.if-is_component.false)) c.in-Ok.ensures.cases.1 whole
    (c.in-Ok-print_over.ensures.printed whole.0 whole.1)

pub returns : goal.returns
returns c =
    let written = buffers c.args.out.now c.print_over.new.out c.args.table.now c.print_over.new.table in
    let whole = c.in_default-cut_place.ensures.whole in
    refused_by c.args.wasm.now written c.refused-in-Err.result
    (request_of c.args.asked.flags c.args.asked.indent.now c.args.asked.limit c.args.asked.omitted.now) c.in-Ok-indented.config c.in-Err.error
    (c.in-Ok-indented.ensures.options_of ∙ ap (options_of c.args.asked.flags) c.in-Ok.ensures.cases.0)
    (λ marked. true≢false (sym (c.is_component.ensures.1 marked) ∙ c.if-is_component.false)) c.in-Ok.ensures.cases.1 whole
    (c.in-Err.ensures.refused whole.0 whole.1) (c.in-Err.ensures.left whole.0 whole.1) c.refused-in-Err.ensures
