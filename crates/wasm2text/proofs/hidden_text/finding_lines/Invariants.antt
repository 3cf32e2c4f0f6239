-- The lines so far and those of the findings that are left are all lines.
use Rattle.std.proofs.Common.{◌≡◌, ◌++◌, drop, flat_map, string_bytes}
use Rattle.wasm2text.specs.HiddenText.{finding_line}
use Rattle.wasm2text.proofs.hidden_text.finding_lines.Given as goal

abbrev pub invariant-loop-finding : goal.invariant-loop-finding
invariant-loop-finding l = string_bytes l.text ++ flat_map finding_line (drop l.finding-index l.found) ≡ flat_map finding_line l.found
