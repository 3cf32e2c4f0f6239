-- The entries of the section of each kind are those of the module.
use Rattle.std.proofs.Common.{refl, sym, ap, ◌∙◌}
use Rattle.wasmprinter_hidden.specs.Lengths.{group_len, memory_type_len, tag_len, import_len, export_len, table_len, global_len, element_len, data_len}
use Rattle.wasmprinter_hidden.specs.Hidden.{Extent}
use Rattle.wasmprinter_hidden.proofs.SectionParts.{entries_found}
use Rattle.wasmprinter_hidden.proofs.hidden_bytes.add_section.Goals as goal

pub returns-in-1 : goal.returns-in-1
returns-in-1 c =
    let m = c.args.module.now in
    entries_found group_len 1 m m.types c.types.result.now c.args.section c.add_entries.result c.args.findings.now c.add_entries.new.findings
    (sym (ap (λ (x : Extent). x.id) c.section.view_is) ∙ c.in-1.is) c.types.ensures.all refl c.add_entries.ensures

pub returns-in-2 : goal.returns-in-2
returns-in-2 c =
    let m = c.args.module.now in
    entries_found import_len 2 m m.imports c.imports.result.now c.args.section c.add_entries-in-2.result c.args.findings.now c.add_entries-in-2.new.findings
    (sym (ap (λ (x : Extent). x.id) c.section.view_is) ∙ c.in-2.is) c.imports.ensures.all refl c.add_entries-in-2.ensures

pub returns-in-4 : goal.returns-in-4
returns-in-4 c =
    let m = c.args.module.now in
    entries_found table_len 4 m m.tables c.tables.result.now c.args.section c.add_entries-in-4.result c.args.findings.now c.add_entries-in-4.new.findings
    (sym (ap (λ (x : Extent). x.id) c.section.view_is) ∙ c.in-4.is) c.tables.ensures.all refl c.add_entries-in-4.ensures

pub returns-in-5 : goal.returns-in-5
returns-in-5 c =
    let m = c.args.module.now in
    entries_found memory_type_len 5 m m.memories c.memories.result.now c.args.section c.add_entries-in-5.result c.args.findings.now c.add_entries-in-5.new.findings
    (sym (ap (λ (x : Extent). x.id) c.section.view_is) ∙ c.in-5.is) c.memories.ensures.all refl c.add_entries-in-5.ensures

pub returns-in-13 : goal.returns-in-13
returns-in-13 c =
    let m = c.args.module.now in
    entries_found tag_len 13 m m.tags c.tags.result.now c.args.section c.add_entries-in-13.result c.args.findings.now c.add_entries-in-13.new.findings
    (sym (ap (λ (x : Extent). x.id) c.section.view_is) ∙ c.in-13.is) c.tags.ensures.all refl c.add_entries-in-13.ensures

pub returns-in-6 : goal.returns-in-6
returns-in-6 c =
    let m = c.args.module.now in
    entries_found global_len 6 m m.globals c.globals.result.now c.args.section c.add_entries-in-6.result c.args.findings.now c.add_entries-in-6.new.findings
    (sym (ap (λ (x : Extent). x.id) c.section.view_is) ∙ c.in-6.is) c.globals.ensures.all refl c.add_entries-in-6.ensures

pub returns-in-7 : goal.returns-in-7
returns-in-7 c =
    let m = c.args.module.now in
    entries_found export_len 7 m m.exports c.exports.result.now c.args.section c.add_entries-in-7.result c.args.findings.now c.add_entries-in-7.new.findings
    (sym (ap (λ (x : Extent). x.id) c.section.view_is) ∙ c.in-7.is) c.exports.ensures refl c.add_entries-in-7.ensures

pub returns-in-9 : goal.returns-in-9
returns-in-9 c =
    let m = c.args.module.now in
    entries_found element_len 9 m m.elements c.elements.result.now c.args.section c.add_entries-in-9.result c.args.findings.now c.add_entries-in-9.new.findings
    (sym (ap (λ (x : Extent). x.id) c.section.view_is) ∙ c.in-9.is) c.elements.ensures refl c.add_entries-in-9.ensures

pub returns-in-11 : goal.returns-in-11
returns-in-11 c =
    let m = c.args.module.now in
    entries_found data_len 11 m m.data_segments c.data_segments-in-11.result.now c.args.section c.add_entries-in-11.result c.args.findings.now c.add_entries-in-11.new.findings
    (sym (ap (λ (x : Extent). x.id) c.section.view_is) ∙ c.in-11.is) c.data_segments-in-11.ensures refl c.add_entries-in-11.ensures
