use Rattle.std.specs.Prelude.{◌+◌, ◌*◌, ◌<◌, ◌^◌, length}
use Rattle.wasmprinter_spec.specs.Module.{locals_of}
use Rattle.wasmprinter_flat.specs.OpenLabels.LabelState.{names_of}
use Rattle.wasmprinter_text.specs.declared.types.params_and_locals.Before.TheVariants.{Line}
use Rattle.wasmprinter_module_text.proofs.LocalLines.{walk_from}
use Rattle.wasmprinter_module_text.proofs.locals.write_entries.Given as goal

-- Each remaining entry declares fewer than 2^32 locals.
abbrev pub invariant-loop-entry : goal.invariant-loop-entry
invariant-loop-entry g l = record {
  rest : (t : _) → g.O.Output.wrote l.out t (walk_from (names_of l.scope.labels) l.function l.position (locals_of l.entry-iterator)) → g.O.Output.wrote l.fn.out t (walk_from (names_of l.scope.labels) l.function (record { before = Line; number = l.parameters }) (locals_of l.fn.locals));
  number : l.position.number + 4294967296 * length l.entry-iterator < 2 ^ 64;
}
