use Rattle.std.proofs.Common.{◌∙◌}
use Rattle.wasmprinter_custom.proofs.FoundSteps.{known_shrinks, known_outcome}
use Rattle.wasmprinter_custom.proofs.dylink.DylinkContents.of.Goals as goal

pub subsections-smaller-in_default-found : goal.subsections-smaller-in_default-found
subsections-smaller-in_default-found c =
    known_shrinks c.subsections.cursor c.read.new.cursor (λ none. let t = c.subsections-test.ensures.1 none in cc) c.in-Ok.found c.in_default-found.field-0 c.in_default-found.is
    c.in-Ok.ensures.reads c.in-Ok.ensures.known

pub subsections-preserved-in_default-found : goal.subsections-preserved-in_default-found
subsections-preserved-in_default-found c =
    known_outcome c.subsections.cursor c.read.new.cursor (λ none. let t = c.subsections-test.ensures.1 none in cc) c.in-Ok.found c.in_default-found.field-0 c.in_default-found.is
    c.in-Ok.ensures.reads c.in-Ok.ensures.known
    ∙ c.subsections.invariant

pub subsections-smaller-in_default-found-2 : goal.subsections-smaller-in_default-found-2
subsections-smaller-in_default-found-2 c =
    known_shrinks c.subsections.cursor c.read.new.cursor (λ none. let t = c.subsections-test.ensures.1 none in cc) c.in-Ok.found c.in_default-found.field-0 c.in_default-found.is
    c.in-Ok.ensures.reads c.in-Ok.ensures.known

pub subsections-preserved-in_default-found-2 : goal.subsections-preserved-in_default-found-2
subsections-preserved-in_default-found-2 c =
    known_outcome c.subsections.cursor c.read.new.cursor (λ none. let t = c.subsections-test.ensures.1 none in cc) c.in-Ok.found c.in_default-found.field-0 c.in_default-found.is
    c.in-Ok.ensures.reads c.in-Ok.ensures.known
    ∙ c.subsections.invariant

pub subsections-smaller-in_default-found-3 : goal.subsections-smaller-in_default-found-3
subsections-smaller-in_default-found-3 c =
    known_shrinks c.subsections.cursor c.read.new.cursor (λ none. let t = c.subsections-test.ensures.1 none in cc) c.in-Ok.found c.in_default-found.field-0 c.in_default-found.is
    c.in-Ok.ensures.reads c.in-Ok.ensures.known

pub subsections-preserved-in_default-found-3 : goal.subsections-preserved-in_default-found-3
subsections-preserved-in_default-found-3 c =
    known_outcome c.subsections.cursor c.read.new.cursor (λ none. let t = c.subsections-test.ensures.1 none in cc) c.in-Ok.found c.in_default-found.field-0 c.in_default-found.is
    c.in-Ok.ensures.reads c.in-Ok.ensures.known
    ∙ c.subsections.invariant
