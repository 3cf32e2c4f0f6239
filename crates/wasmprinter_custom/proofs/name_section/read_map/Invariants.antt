use Rattle.wasmprinter_spec.specs.Names.Section.{entry}
use Rattle.wasmprinter_custom.proofs.Loops.{Added}
use Rattle.wasmprinter_custom.proofs.name_section.read_map.Given as goal

abbrev pub invariant-loop : goal.invariant-loop
invariant-loop l = Added (entry l.subsection l.outer) l.counter l.initial.cursor l.initial.builder l.cursor l.builder
