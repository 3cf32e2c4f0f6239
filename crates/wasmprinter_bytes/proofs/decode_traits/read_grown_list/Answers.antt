use Rattle.std.proofs.Common.{rules, arith}
use Rattle.std.proofs.lemmas.Result.{err_from_is_err_and}
use Rattle.wasmprinter_bytes.proofs.Fronts.{front_more}
use Rattle.wasmprinter_bytes.proofs.Grown.{list_fault, counted_some}
use Rattle.wasmprinter_bytes.proofs.decode_traits.read_grown_list.Goals as goal

pub loop-preserved : goal.loop-preserved
loop-preserved g c = record {
  rest = rw c.in_ok-push.ensures.items (front_more g.T.GrownIn.parse c.loop.grown.items c.in_ok-count.count c.loop.counter c.loop.cursor c.in_ok-read.field-0 c.read.new.cursor _ (omega arith) c.in_ok-read.ensures.reads c.loop.invariant.rest);
  end = omega (arith, c.in_ok-read.ensures.end, c.loop.invariant.end);
  forward = omega (arith, c.in_ok-read.ensures.forward, c.loop.invariant.forward);
}

pub returns-in_err-read : goal.returns-in_err-read
returns-in_err-read g c = record {
  reads =
      let p = err_from_is_err_and c.from_residual-in_err-read.result c.from_residual-in_err-read.ensures.1 in
      rw (p.1, p.2)
      (list_fault g.T.GrownIn.parse c.args.cursor.now c.u32.new.self c.loop.cursor c.in_ok-count.count c.loop.counter c.loop.grown.items c.in_ok-count.ensures.reads (omega arith) c.loop.invariant.rest
      (g.T.GrownIn.grows c.loop.cursor) (omega (arith, c.loop.invariant.end, c.in_ok-count.ensures.end)) (omega (arith, c.loop.invariant.forward, c.in_ok-count.ensures.forward)) c.in_err-read.field-0.0 c.in_err-read.ensures.reads);
  end = search rules;
  forward = search rules;
}

pub returns-in_err-push : goal.returns-in_err-push
returns-in_err-push g c = record {
  reads =
      let p = err_from_is_err_and c.from_residual-in_err-push.result c.from_residual-in_err-push.ensures.1 in
      rw (p.1, p.2) (counted_some g.T.GrownIn.parse c.args.cursor.now c.u32.new.self c.loop.cursor c.in_ok-count.count c.loop.counter c.loop.grown.items c.in_ok-count.ensures.reads (omega arith) c.loop.invariant.rest);
  end = search rules;
  forward = search rules;
}
