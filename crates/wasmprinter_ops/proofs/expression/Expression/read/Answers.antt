use Rattle.std.proofs.Common.{rules}
use Rattle.wasmprinter_ops.proofs.Skipping.{read_expression}
use Rattle.wasmprinter_ops.proofs.expression.Expression.read.Goals as goal

pub invariant_of-result : goal.invariant_of-result
invariant_of-result c =
    (read_expression c.args.cursor.now c.fork-start.result c.front.result c.skip_operators.new.cursor c.in_ok-end.end c.place.result
    c.fork-start.ensures.same c.place.ensures c.in_ok-end.ensures.reads c.front.ensures).has

pub returns : goal.returns
returns c = record {
  reads =
      (read_expression c.args.cursor.now c.fork-start.result c.front.result c.skip_operators.new.cursor c.in_ok-end.end c.place.result
      c.fork-start.ensures.same c.place.ensures c.in_ok-end.ensures.reads c.front.ensures).reads;
  end = search rules;
  forward = search rules;
}
