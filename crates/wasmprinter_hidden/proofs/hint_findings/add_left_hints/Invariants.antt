-- The findings so far, with those of the functions and the entries that are left, are those of all.
use Rattle.std.specs.Prelude.{◌≡◌, ◌+◌, ◌++◌, ◌≤◌, length, map, drop}
use Rattle.wasmprinter_spec.specs.Module.{func_import}
use Rattle.wasmprinter_hidden.specs.HiddenNames.{imported}
use Rattle.wasmprinter_hidden.specs.HiddenHints.{left_hints, in_hint}
use Rattle.wasmprinter_hidden.proofs.hint_findings.add_left_hints.Given as goal

abbrev pub invariant-loop-index : goal.invariant-loop-index
invariant-loop-index l = record {
  left : l.findings ++ map in_hint (left_hints (imported l.module func_import + l.index) (drop l.index l.module.functions) (drop l.taken l.entries))
      ≡ l.fn.findings ++ map in_hint (left_hints (imported l.module func_import) l.module.functions l.entries);
  within : l.taken ≤ length l.entries;
}
