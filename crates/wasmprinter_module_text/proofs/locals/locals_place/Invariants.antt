use Rattle.std.proofs.Common.{◌≡◌}
use Rattle.wasmprinter_spec.specs.Layout.Functions.{locals_place}
use Rattle.wasmprinter_module_text.proofs.locals.locals_place.Given as goal

abbrev pub invariant-loop-entry : goal.invariant-loop-entry
invariant-loop-entry l = locals_place l.fn.locals ≡ locals_place l.entry-iterator
