use Rattle.std.proofs.Common.{rules, ◌<◌, arith, inr}
use Rattle.std.proofs.lemmas.Result.{err_from_is_err_and}
use Rattle.wasmprinter_bytes.proofs.Fronts.{front_more, first_stands}
use Rattle.wasmprinter_bytes.proofs.decode_traits.read_list.Goals as goal

pub loop-preserved : goal.loop-preserved
loop-preserved g c = record {
  rest = rw c.in_ok-push.ensures.items (front_more g.T.DecodeIn.parse c.loop.values.items c.in_ok-count.count c.loop.counter c.loop.cursor c.in_ok-read.field-0 c.read.new.cursor _ (omega arith) c.in_ok-read.ensures.reads c.loop.invariant.rest);
  end = omega (arith, c.in_ok-read.ensures.end, c.loop.invariant.end);
  forward = omega (arith, c.in_ok-read.ensures.forward, c.loop.invariant.forward);
  first = inr (first_stands g.T.DecodeIn.parse c.u32.new.self c.loop.cursor (c.in_ok-read.field-0, c.read.new.cursor) c.loop.invariant.first c.in_ok-read.ensures.reads);
}

pub returns-in_err-push : goal.returns-in_err-push
returns-in_err-push g c = record {
  reads =
      let p = err_from_is_err_and c.from_residual-in_err-push.result c.from_residual-in_err-push.ensures.1 in
      let some : 0 < c.in_ok-count.count = omega arith in
      rw (p.1, p.2)
      (record {
        counts = record { count = c.in_ok-count.count; after = c.u32.new.self; counted = c.in_ok-count.ensures.reads; some = some };
        first = first_stands g.T.DecodeIn.parse c.u32.new.self c.loop.cursor (c.in_ok-read.field-0, c.read.new.cursor) c.loop.invariant.first c.in_ok-read.ensures.reads;
      });
  end = search rules;
  forward = search rules;
}
