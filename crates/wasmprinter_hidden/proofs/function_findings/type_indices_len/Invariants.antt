-- The length so far, with that of the types of the functions that are left, is the length of all.
use Rattle.std.proofs.Common.{◌≡◌, ◌+◌, ◌*◌, ◌≤◌, drop, map}
use Rattle.wasmprinter_hidden.specs.Lengths.{unsigned_len, list_len}
use Rattle.wasmprinter_hidden.proofs.FunctionParts.{indices_len}
use Rattle.wasmprinter_hidden.proofs.function_findings.type_indices_len.Given as goal

abbrev pub invariant-loop-number : goal.invariant-loop-number
invariant-loop-number l = record {
  rest : l.len + indices_len (drop l.number l.module.functions) ≡ list_len unsigned_len (map (λ f. f.type_index) l.module.functions);
  few : l.len ≤ 10 + 10 * l.number;
}
