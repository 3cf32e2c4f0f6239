use Rattle.std.proofs.Common.{refl, drop, ap, ◌∙◌, arith}
use Rattle.std.proofs.lemmas.List.{take_rest}
use Rattle.wasmprinter_spec.specs.Grammar.{input}
use Rattle.wasmprinter_hidden.proofs.SectionsLeft.{ends_fit, sections_all, sections_more, sections_none}
use Rattle.wasmprinter_hidden.proofs.hidden_bytes.findings_in_sections.Goals as goal

pub loop-section-init : goal.loop-section-init
loop-section-init c =
    let wasm = c.args.wasm.now in
    sections_all wasm c.args.module.now c.new-cursor.result c.args.module.now.customs c.new-findings.result c.requires
    (c.new-cursor.ensures ∙ ap (input 8) (take_rest wasm 8)) refl c.new-findings.ensures

pub add_section-requires : goal.add_section-requires
add_section-requires c = ends_fit c.args.wasm.now c.args.module.now c.requires (omega arith)

pub loop-section-preserved : goal.loop-section-preserved
loop-section-preserved c =
    let m = c.args.module.now in
    let x = c.in-Ok.section in
    let named = rw (c.customs.ensures, c.in_ok-named.ensures) at c.in_ok-custom_count.ensures in
    sections_more c.args.wasm.now m c.loop-section.cursor c.read.new.cursor (drop c.loop-section.custom_count m.customs) (drop c.in_ok-custom_count.custom_count m.customs)
    c.loop-section.findings c.add_section.new.findings c.add_custom.new.findings x c.in-Ok.ensures.reads.reads c.in_ok-add_section.ensures named.0 named.1 c.loop-section.invariant

pub returns : goal.returns
returns c =
    let m = c.args.module.now in
    sections_none c.args.wasm.now m c.loop-section.cursor (drop c.loop-section.custom_count m.customs) c.loop-section.findings c.in_default.ensures.reads.reads c.loop-section.invariant
