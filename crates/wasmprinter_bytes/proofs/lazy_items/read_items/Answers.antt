use Rattle.std.proofs.Common.{rules, Some, arith, sym, ◌∙◌, ap}
use Rattle.std.proofs.lemmas.Result.{err_from_is_err_and}
use Rattle.wasmprinter_spec.specs.Grammar.{Input}
use Rattle.wasmprinter_bytes.specs.Items.{skip_at}
use Rattle.wasmprinter_bytes.proofs.ItemsInBytes.{skip_more, skip_none, skip_end, HasItems-skip, vec_some, vec_none}
use Rattle.wasmprinter_bytes.proofs.lazy_items.read_items.Goals as goal

pub loop-preserved : goal.loop-preserved
loop-preserved g c = record {
  rest = skip_more g.T.Decode.parse c.in_ok-count.count c.loop.counter c.loop.cursor _ c.read.new.cursor _ (omega arith) c.in_ok-read.ensures.reads c.loop.invariant.rest;
  end = omega (arith, c.in_ok-read.ensures.end, c.loop.invariant.end);
  forward = omega (arith, c.in_ok-read.ensures.forward, c.loop.invariant.forward);
}

pub invariant_of-result : goal.invariant_of-result
invariant_of-result g c =
    HasItems-skip g.T.Decode.parse c.in_ok-count.count c.fork-start.result c.loop.cursor
    (skip_end g.T.Decode.parse c.in_ok-count.count c.loop.counter c.loop.cursor _ (omega arith) c.loop.invariant.rest)

pub returns : goal.returns
returns g c = record {
  reads = vec_some g.T.Decode.parse c.args.cursor.now c.fork-start.result c.loop.cursor c.in_ok-count.count (c.in_ok-count.ensures.reads ∙ ap (λ (at : Input). Some (c.in_ok-count.count, at)) (sym c.fork-start.ensures.same))
      (skip_end g.T.Decode.parse c.in_ok-count.count c.loop.counter c.loop.cursor _ (omega arith) c.loop.invariant.rest);
  within = search rules;
  end = search rules;
  forward = search rules;
}

pub returns-in_err-read : goal.returns-in_err-read
returns-in_err-read g c = record {
  reads =
      let p = err_from_is_err_and c.from_residual-in_err-read.result c.from_residual-in_err-read.ensures.1 in
      rw p.1
      (vec_none g.T.Decode.parse c.args.cursor.now c.fork-start.result c.in_ok-count.count (c.in_ok-count.ensures.reads ∙ ap (λ (at : Input). Some (c.in_ok-count.count, at)) (sym c.fork-start.ensures.same))
      (skip_none g.T.Decode.parse c.in_ok-count.count c.loop.counter c.loop.cursor (skip_at g.T.Decode.parse c.in_ok-count.count c.fork-start.result) (omega arith) c.in_err-read.ensures.reads c.loop.invariant.rest));
  within = search rules;
  end = search rules;
  forward = search rules;
}
