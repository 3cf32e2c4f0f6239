use Rattle.std.proofs.Common.{arith}
use Rattle.wasmprinter_custom.specs.Spaces.{id_of, outer_of}
use Rattle.wasmprinter_hidden.specs.HiddenNames.{item_name}
use Rattle.wasmprinter_hidden.proofs.NameReading.{left_after_one}
use Rattle.wasmprinter_hidden.proofs.name_findings.read_name_map.Goals as goal

pub loop-preserved : goal.loop-preserved
loop-preserved c =
    let x = c.args.items in
    left_after_one (item_name c.args.named.now (id_of x.space) (outer_of x.space x.outer) x.count) c.read_number.new.cursor c.read_number.new.findings
    c.in-Some.names c.loop.counter c.loop.cursor c.read_name.new.cursor c.loop.findings c.read_name.new.findings (omega arith) c.loop.invariant
    (rw c.if-branch.false at c.in_ok-read_name.ensures)
