-- The names from this number on are left.
use Rattle.wasmprinter_custom.specs.Spaces.{id_of, outer_of}
use Rattle.wasmprinter_hidden.specs.HiddenNames.{item_name}
use Rattle.wasmprinter_hidden.proofs.NameReading.{TimesLeft}
use Rattle.wasmprinter_hidden.proofs.name_findings.read_name_map.Given as goal

abbrev pub invariant-loop : goal.invariant-loop
invariant-loop l =
    TimesLeft (item_name l.named (id_of l.items.space) (outer_of l.items.space l.items.outer) l.items.count) l.initial.cursor l.initial.findings l.names
    l.counter l.cursor l.findings
