use Rattle.std.proofs.Common.{◌≡◌, ◌+◌, length, codes}
use Rattle.wasmprinter_spec.specs.Layout.Types.{parameters_of}
use Rattle.wasmprinter_custom.specs.Shown.{names_of_identifiers}
use Rattle.wasmprinter_ops.specs.ValTypes.{val_types_view}
use Rattle.wasmprinter_text.specs.declared.types.params_and_locals.Before.TheVariants as before
use Rattle.wasmprinter_text.specs.Variables.{walk_pieces}
use Rattle.wasmprinter_text.proofs.types.params_and_locals.write_params.Given as goal

abbrev pub invariant-loop-number : goal.invariant-loop-number
invariant-loop-number g l = record {
  rest : (t : _) → g.O.Output.wrote l.out t (walk_pieces (names_of_identifiers l.fn.identifiers) (codes "param") (parameters_of (names_of_identifiers l.fn.identifiers) l.fn.owner) l.before l.number-iterator.a.start (val_types_view l.number-iterator.b)) → g.O.Output.wrote l.fn.out t (walk_pieces (names_of_identifiers l.fn.identifiers) (codes "param") (parameters_of (names_of_identifiers l.fn.identifiers) l.fn.owner) before.ClosedGroup 0 (val_types_view l.fn.types));
  count : l.number-iterator.a.start + length l.number-iterator.b ≡ l.number-iterator.a.end;
  next : (goal.iterator-loop-number g).can_next l.number-iterator × (goal.iterator-loop-number g).is_finite l.number-iterator;
}
