use Rattle.std.proofs.Common.{refl}
use Rattle.std.proofs.lemmas.Result.{on_ok_weaker}
use Rattle.wasmprinter_hidden.proofs.SubsectionReading.{subsections_more, subsections_stop, subsections_end, names_read, names_stopped}
use Rattle.wasmprinter_hidden.proofs.name_findings.add_names.Goals as goal

pub returns-then-branch : goal.returns-then-branch
returns-then-branch c =
    let m = c.args.named.now in
    let start = c.args.section in
    let old = c.args.findings.now in
    let after = c.read_subsection.new.cursor in
    let now = c.read_subsection.new.findings in
    let all =
    subsections_stop m start old c.subsections.cursor c.subsections.findings after now (λ none. let t = c.subsections-test.ensures.1 none in cc)
    c.subsections.invariant (rw c.if-branch.true at c.in_ok-read_subsection.ensures.reads) in
    on_ok_weaker c.add_stop.result
    (λ e. names_stopped m start after old now c.add_stop.new.findings c.place.result c.end-end.result c.place.ensures c.end-end.ensures all e)
    c.add_stop.ensures

pub subsections-preserved : goal.subsections-preserved
subsections-preserved c =
    subsections_more c.args.named.now c.args.section c.args.findings.now c.subsections.cursor c.subsections.findings c.read_subsection.new.cursor
    c.read_subsection.new.findings (λ none. let t = c.subsections-test.ensures.1 none in cc) c.subsections.invariant
    (rw c.if-branch.false at c.in_ok-read_subsection.ensures.reads) (c.in_ok-read_subsection.ensures.advances c.if-branch.false)

pub returns : goal.returns
returns c =
    names_read c.args.named.now c.args.section c.subsections.cursor c.args.findings.now c.subsections.findings
    (subsections_end c.args.named.now c.args.section c.args.findings.now c.subsections.cursor c.subsections.findings
    (c.subsections-test.ensures.0 refl) c.subsections.invariant)
