-- The functions or types from this number on are left.
use Rattle.wasmprinter_hidden.specs.HiddenNames.{inner_map}
use Rattle.wasmprinter_hidden.specs.NamedItems.{inner_id}
use Rattle.wasmprinter_hidden.proofs.NameReading.{TimesLeft}
use Rattle.wasmprinter_hidden.proofs.name_findings.read_indirect_map.Given as goal

abbrev pub invariant-loop : goal.invariant-loop
invariant-loop l = TimesLeft (inner_map l.named (inner_id l.space)) l.initial.cursor l.initial.findings l.maps l.counter l.cursor l.findings
