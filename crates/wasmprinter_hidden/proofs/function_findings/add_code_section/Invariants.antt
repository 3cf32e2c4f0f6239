-- The findings so far, with those in the bodies that are left, are those in all bodies.
use Rattle.std.proofs.Common.{◌≡◌, ◌≤◌, ◌++◌, drop}
use Rattle.wasmprinter_hidden.proofs.FunctionParts.{in_sized}
use Rattle.wasmprinter_hidden.proofs.function_findings.add_code_section.Given as goal

abbrev pub invariant-loop-number : goal.invariant-loop-number
invariant-loop-number l = record {
  found : l.findings ++ in_sized l.size (drop l.number l.module.functions) ≡ l.initial.findings ++ in_sized l.initial.size l.module.functions;
  few : l.size.len ≤ 10;
}
