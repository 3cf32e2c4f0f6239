use Rattle.std.proofs.Common.{arith, sym, ◌∙◌}
use Rattle.std.proofs.lemmas.Result.{err_from_is_err_and}
use Rattle.wasmprinter_decoder.specs.Sections.{section_view}
use Rattle.wasmprinter_decoder.proofs.Gathering.{takes_byte, gathering_none, gathering_more, gathering_unordered, gathering_fault, gathering_unkept}
use Rattle.wasmprinter_decoder.proofs.decode_module.Gathered.read.Goals as goal

pub sections-init : goal.sections-init
sections-init c = gathering_none c.args.cursor.now c.new-gathered.result c.new-gathered.ensures

pub sections-smaller : goal.sections-smaller
sections-smaller c = takes_byte c.sections.cursor (section_view c.in_ok-section.section, c.read.new.cursor) c.in_ok-section.ensures.reads.0

pub sections-preserved : goal.sections-preserved
sections-preserved c =
    gathering_more c.args.cursor.now c.sections.cursor c.read.new.cursor c.sections.gathered (section_view c.in_ok-section.section) c.in_ok-section.ensures.reads.0 c.sections.invariant
    c.in_ok-section.ensures.reads.1 (sym c.may_precede.ensures ∙ c.if-not-may_precede.false) c.in_ok-section.ensures.end c.add.new.self c.in_ok-add.ensures.added

pub returns-then-not-may_precede : goal.returns-then-not-may_precede
returns-then-not-may_precede c = (
  gathering_unordered c.args.cursor.now c.sections.cursor c.read.new.cursor c.sections.gathered (section_view c.in_ok-section.section) c.in_ok-section.ensures.reads.0 c.sections.invariant (sym c.may_precede.ensures ∙ c.if-not-may_precede.true),
  omega (arith, c.sections.invariant.ends, c.place-place.ensures),
)

pub returns-in_err-section : goal.returns-in_err-section
returns-in_err-section c =
    let (fault, failed, is) = err_from_is_err_and c.from_residual.result c.from_residual.ensures.1 in
    rw (failed, is)
    (gathering_fault c.args.cursor.now c.sections.cursor c.sections.gathered (λ none. let t = c.sections-test.ensures.1 none in cc) c.sections.invariant c.in_err-section.field-0.0 c.in_err-section.ensures.reads)

pub returns-in_err-add : goal.returns-in_err-add
returns-in_err-add c =
    let (fault, failed, is) = err_from_is_err_and c.from_residual-in_err-add.result c.from_residual-in_err-add.ensures.1 in
    rw (failed, is)
    (gathering_unkept c.args.cursor.now c.sections.cursor c.sections.gathered (λ none. let t = c.sections-test.ensures.1 none in cc) c.sections.invariant (section_view c.in_ok-section.section)
    c.read.new.cursor c.in_ok-section.ensures.reads.0 c.in_err-add.ensures.needed)
