use Rattle.std.proofs.Common.{◌≡◌, ◌++◌}
use Rattle.wasmprinter_decoder.proofs.Flattening.{types_from}
use Rattle.wasmprinter_decoder.proofs.type_section.types_of_groups.Given as goal

abbrev pub invariant-loop-group : goal.invariant-loop-group
invariant-loop-group l = l.types.items ++ types_from l.groups l.group-index ≡ types_from l.groups 0
