use Rattle.wasmprinter_spec.specs.Layout.Customs.{exports_pieces}
use Rattle.wasmprinter_module_text.proofs.dylink.write_exports.Given as goal

abbrev pub invariant-loop-export : goal.invariant-loop-export
invariant-loop-export g l =
    (t : _) → g.O.Output.wrote l.out t (exports_pieces l.fn.place l.export-iterator) →
    g.O.Output.wrote l.fn.out t (exports_pieces l.fn.place l.fn.exports)
