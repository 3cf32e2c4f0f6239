use Rattle.std.proofs.Common.{◌≡◌, map, drop}
use Rattle.wasmprinter_spec.specs.Lines.{line_from}
use Rattle.wasmprinter.proofs.find_operator_line.line_number.Given as goal

abbrev pub invariant-loop-number : goal.invariant-loop-number
invariant-loop-number l =
    line_from l.number l.place (drop l.number (map (λ line. (line.0, line.1.now)) l.lines)) ≡ line_from 0 l.place (map (λ line. (line.0, line.1.now)) l.lines)
