use Rattle.std.proofs.Common.{refl}
use Rattle.std.proofs.lemmas.Result.{err_from_is_err_and}
use Rattle.wasmprinter_custom.proofs.Subsections.{smaller, underway_more, underway_stopped, underway_ended}
use Rattle.wasmprinter_custom.proofs.name_section.read_subsections.Goals as goal

pub subsections-smaller : goal.subsections-smaller
subsections-smaller c =
    smaller c.subsections.cursor c.subsections.builder c.read_subsection.new.builder (λ none. let t = c.subsections-test.ensures.1 none in cc)
    c.read_subsection.new.cursor c.in_ok-read_subsection.ensures

pub subsections-preserved : goal.subsections-preserved
subsections-preserved c =
    underway_more c.subsections.cursor c.subsections.builder c.read_subsection.new.builder (λ none. let t = c.subsections-test.ensures.1 none in cc)
    c.args.cursor.now c.args.builder.now c.read_subsection.new.cursor c.subsections.invariant c.in_ok-read_subsection.ensures

pub returns-in_err-read_subsection : goal.returns-in_err-read_subsection
returns-in_err-read_subsection c =
    let p = err_from_is_err_and c.from_residual.result c.from_residual.ensures.1 in
    rw (p.1, p.2)
    (underway_stopped c.subsections.cursor c.subsections.builder c.read_subsection.new.builder (λ none. let t = c.subsections-test.ensures.1 none in cc)
    c.args.cursor.now c.args.builder.now c.in_err-read_subsection.field-0.0 c.subsections.invariant c.in_err-read_subsection.ensures)

pub returns : goal.returns
returns c = underway_ended c.args.cursor.now c.subsections.cursor c.args.builder.now c.subsections.builder (c.subsections-test.ensures.0 refl) c.subsections.invariant
