use Rattle.std.proofs.Common.{◌≡◌, length}
use Rattle.wasmprinter_spec.specs.Customs.Dylink.{judgement_of}
use Rattle.wasmprinter_custom.proofs.DylinkSubsections.{outcome}
use Rattle.wasmprinter_custom.proofs.dylink.DylinkContents.of.Given as goal

abbrev pub invariant-subsections : goal.invariant-subsections
invariant-subsections l = outcome (judgement_of l.cursor) ≡ outcome (judgement_of l.section)

abbrev pub decreases-subsections : goal.decreases-subsections
decreases-subsections l = length l.cursor.bytes
