use Rattle.wasmprinter_decoder.proofs.Naming.{Naming}
use Rattle.wasmprinter_decoder.proofs.module.Module.names.Given as goal

abbrev pub invariant-loop-custom : goal.invariant-loop-custom
invariant-loop-custom l = Naming l.self.customs l.custom-index l.builder
