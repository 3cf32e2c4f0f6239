use Rattle.std.proofs.Common.{length}
use Rattle.wasmprinter_c.proofs.NameLists.{IsLeft}
use Rattle.wasmprinter_c.proofs.omitted_names.is_listed.Given as goal

abbrev pub invariant-loop-first : goal.invariant-loop-first
invariant-loop-first l = IsLeft l.name l.list l.rest

abbrev pub decreases-loop-first : goal.decreases-loop-first
decreases-loop-first l = length l.rest
