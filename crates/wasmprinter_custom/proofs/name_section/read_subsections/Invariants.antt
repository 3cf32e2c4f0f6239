use Rattle.std.proofs.Common.{length}
use Rattle.wasmprinter_custom.proofs.Subsections.{Underway}
use Rattle.wasmprinter_custom.proofs.name_section.read_subsections.Given as goal

abbrev pub invariant-subsections : goal.invariant-subsections
invariant-subsections l = Underway l.initial.cursor l.initial.builder l.cursor l.builder

abbrev pub decreases-subsections : goal.decreases-subsections
decreases-subsections l = length l.cursor.bytes
