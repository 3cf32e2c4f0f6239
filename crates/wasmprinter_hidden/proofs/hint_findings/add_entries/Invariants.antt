-- The findings so far, with those of the entries that are left, are those of all.
use Rattle.std.specs.Prelude.{◌≡◌, ◌++◌, map, drop}
use Rattle.wasmprinter_hidden.specs.HiddenHints.{hints_in, in_hint}
use Rattle.wasmprinter_hidden.proofs.hint_findings.add_entries.Given as goal

abbrev pub invariant-loop-entry : goal.invariant-loop-entry
invariant-loop-entry l =
    l.findings ++ map in_hint (hints_in (drop l.entry-index l.entries)) ≡ l.fn.findings ++ map in_hint (hints_in l.entries)
