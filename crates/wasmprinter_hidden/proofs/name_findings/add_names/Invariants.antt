-- The subsections from the cursor on are left.
use Rattle.std.proofs.Common.{length}
use Rattle.wasmprinter_hidden.proofs.SubsectionReading.{SubsectionsLeft, all_subsections}
use Rattle.wasmprinter_hidden.proofs.name_findings.add_names.Given as goal

abbrev pub invariant-subsections : goal.invariant-subsections
invariant-subsections l = SubsectionsLeft l.named l.cursor l.findings (all_subsections l.named l.initial.cursor) l.initial.findings

abbrev pub decreases-subsections : goal.decreases-subsections
decreases-subsections l = length l.cursor.bytes
