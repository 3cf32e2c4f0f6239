use Rattle.wasmprinter_spec.specs.Layout.Customs.{values_pieces}
use Rattle.wasmprinter_module_text.proofs.producers.write_field.Given as goal

abbrev pub invariant-loop-value : goal.invariant-loop-value
invariant-loop-value g l =
    (t : _) → g.O.Output.wrote l.out t (values_pieces l.fn.field.name l.value-iterator) →
    g.O.Output.wrote l.fn.out t (values_pieces l.fn.field.name l.fn.field.values)
