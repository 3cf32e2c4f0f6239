use Rattle.std.proofs.Common.{◌≡◌, ◌∷◌, ◌<◌, rules, length, List, sym, ap, ◌∙◌, arith}
use Rattle.wasmprinter_spec.specs.Customs.Dylink.{Subsection, judgement_of}
use Rattle.wasmprinter_custom.specs.Sound.{subsections_in, IsFaultless}
use Rattle.wasmprinter_custom.proofs.FoundSteps.{known_whole}
use Rattle.wasmprinter_custom.proofs.dylink.DylinkIterator.next.Goals as goal
use Rattle.wasmprinter_custom.proofs.dylink.DylinkIterator.next.Goals.{In-Ok-Known}

goes_on : (c : In-Ok-Known) → IsFaultless (judgement_of c.read.new.cursor) × (subsections_in (judgement_of c.self.inside.cursor) ≡ c.in-Ok-Known.subsection ∷ subsections_in (judgement_of c.read.new.cursor))
goes_on c =
    known_whole c.self.inside.cursor c.read.new.cursor (λ none. let t = c.if-is_empty.ensures.1 none in cc) c.in-Ok-Known.field-0 c.in-Ok-Known.subsection
    c.in-Ok-Known.field-0-is c.in-Ok-Known.ensures.reads c.in-Ok-Known.ensures.known c.self.invariant

pub invariant_of-self : goal.invariant_of-self
invariant_of-self c = (goes_on c).0

pub returns-clause-steps : goal.returns-clause-steps
returns-clause-steps c = sym c.self.view_is ∙ (goes_on c).1

pub returns-clause-goes : goal.returns-clause-goes
returns-clause-goes c =
    let rest : List Subsection = subsections_in (judgement_of c.read.new.cursor) in
    let first : c.args.self.now ≡ c.in-Ok-Known.subsection ∷ rest = sym c.self.view_is ∙ (goes_on c).1 in
    let fewer : length rest < length c.args.self.now = omega (arith, ap length first) in
    search rules
