-- The findings so far, with those of the hints that are left, are those of all.
use Rattle.std.specs.Prelude.{◌≡◌, ◌++◌, map}
use Rattle.wasmprinter_hidden.specs.HiddenHints.{in_hint}
use Rattle.wasmprinter_hidden.proofs.hint_findings.add_hints.Given as goal

abbrev pub invariant-loop-hint : goal.invariant-loop-hint
invariant-loop-hint l = l.findings ++ map in_hint l.hint-iterator ≡ l.fn.findings ++ map in_hint l.hints
