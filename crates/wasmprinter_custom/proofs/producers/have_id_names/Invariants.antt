use Rattle.std.proofs.Common.{◌≡◌}
use Rattle.wasmprinter_spec.specs.Customs.Producers.{have_id_names}
use Rattle.wasmprinter_custom.proofs.producers.have_id_names.Given as goal

abbrev pub invariant-loop-field : goal.invariant-loop-field
invariant-loop-field l = record {
  can : (goal.iterator-loop-field).can_next l.field-iterator;
  ends : (goal.iterator-loop-field).is_finite l.field-iterator;
  rest : have_id_names l.field-iterator ≡ have_id_names l.fn.fields;
}
