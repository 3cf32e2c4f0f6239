use Rattle.std.specs.Prelude.{◌≡◌, ◌+◌, ◌-◌, replicate}
use Rattle.wasmprinter_flat.specs.OpenLabels.LabelState.{names_of}
use Rattle.wasmprinter_module_text.specs.LocalWalk.{after_all, locals_parts}
use Rattle.wasmprinter_module_text.proofs.locals.write_entry.Given as goal

abbrev pub invariant-loop : goal.invariant-loop
invariant-loop g l = record {
  rest : (t : _) → g.O.Output.wrote l.out t (locals_parts (names_of l.scope.labels) l.function l.position (replicate (l.entry.value.count - l.counter) l.entry.value.type)) → g.O.Output.wrote l.fn.out t (locals_parts (names_of l.scope.labels) l.function l.fn.start (replicate l.entry.value.count l.entry.value.type));
  after : after_all ((names_of l.scope.labels).locals l.function) l.position (replicate (l.entry.value.count - l.counter) l.entry.value.type)
      ≡ after_all ((names_of l.scope.labels).locals l.function) l.fn.start (replicate l.entry.value.count l.entry.value.type);
  number : l.position.number ≡ l.fn.start.number + l.counter;
}
