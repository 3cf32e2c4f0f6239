use Rattle.std.proofs.Common.{arith}
use Rattle.wasmprinter_hidden.specs.HiddenNames.{inner_map}
use Rattle.wasmprinter_hidden.specs.NamedItems.{inner_id}
use Rattle.wasmprinter_hidden.proofs.NameReading.{left_after_one}
use Rattle.wasmprinter_hidden.proofs.name_findings.read_indirect_map.Goals as goal

pub loop-preserved : goal.loop-preserved
loop-preserved c =
    left_after_one (inner_map c.args.named.now (inner_id c.args.space)) c.read_number.new.cursor c.read_number.new.findings c.in-Some.maps
    c.loop.counter c.loop.cursor c.read_inner_map.new.cursor c.loop.findings c.read_inner_map.new.findings (omega arith) c.loop.invariant
    (rw c.if-branch.false at c.in_ok-read_inner_map.ensures)
