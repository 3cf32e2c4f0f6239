-- The types so far, with those of the groups that are left, are all.
use Rattle.std.proofs.Common.{◌≡◌, ◌+◌, length}
use Rattle.wasmprinter_spec.specs.Types.{all_types}
use Rattle.wasmprinter_spec.specs.Module.{groups_of}
use Rattle.wasmprinter_hidden.proofs.NameCounting.{types_from}
use Rattle.wasmprinter_hidden.proofs.name_counts.type_count.Given as goal

abbrev pub invariant-loop-group : goal.invariant-loop-group
invariant-loop-group l = l.count + types_from l.module.types l.group-index ≡ length (all_types (groups_of l.module.types))
