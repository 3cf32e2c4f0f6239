use Rattle.wasmprinter_spec.specs.Layout.Customs.{fields_pieces}
use Rattle.wasmprinter_module_text.proofs.producers.write_fields.Given as goal

abbrev pub invariant-loop-field : goal.invariant-loop-field
invariant-loop-field g l =
    (t : _) → g.O.Output.wrote l.out t (fields_pieces l.field-iterator) → g.O.Output.wrote l.fn.out t (fields_pieces l.fn.fields)
