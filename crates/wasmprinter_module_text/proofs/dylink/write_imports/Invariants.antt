use Rattle.wasmprinter_spec.specs.Layout.Customs.{import_infos_pieces}
use Rattle.wasmprinter_module_text.proofs.dylink.write_imports.Given as goal

abbrev pub invariant-loop-import : goal.invariant-loop-import
invariant-loop-import g l =
    (t : _) → g.O.Output.wrote l.out t (import_infos_pieces l.fn.place l.import-iterator) →
    g.O.Output.wrote l.fn.out t (import_infos_pieces l.fn.place l.fn.imports)
