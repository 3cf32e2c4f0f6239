use Rattle.wasmprinter_spec.specs.Names.Section.{inner_map}
use Rattle.wasmprinter_custom.proofs.Loops.{Added}
use Rattle.wasmprinter_custom.proofs.name_section.read_indirect_map.Given as goal

abbrev pub invariant-loop : goal.invariant-loop
invariant-loop l = Added (inner_map l.subsection) l.counter l.initial.cursor l.initial.builder l.cursor l.builder
