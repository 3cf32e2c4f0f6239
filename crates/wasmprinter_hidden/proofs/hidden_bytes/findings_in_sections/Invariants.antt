-- The findings so far, with those in the sections that are left, are all findings.
use Rattle.std.proofs.Common.{drop, length}
use Rattle.wasmprinter_hidden.proofs.SectionsLeft.{HasSectionsLeft}
use Rattle.wasmprinter_hidden.proofs.hidden_bytes.findings_in_sections.Given as goal

abbrev pub invariant-loop-section : goal.invariant-loop-section
invariant-loop-section l = HasSectionsLeft l.wasm l.module l.cursor (drop l.custom_count l.module.customs) l.findings

abbrev pub decreases-loop-section : goal.decreases-loop-section
decreases-loop-section l = length l.cursor.bytes
