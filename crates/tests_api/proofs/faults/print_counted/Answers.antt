use Rattle.tests_api.proofs.Counted.{printed_counts, refused_counts}
use Rattle.tests_api.proofs.faults.print_counted.Goals as goal

pub returns : goal.returns
returns c = record {
  printed = printed_counts c.args.config.now c.args.wasm.now c.args.recorder.now c.print.new.printer c.print.result c.print.ensures.printed;
  refused = refused_counts c.args.config.now c.args.wasm.now c.args.recorder.now c.print.new.printer c.print.result c.print.ensures.left;
}
