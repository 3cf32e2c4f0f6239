use Rattle.std.proofs.Common.{rules, arith, sym, ap, ◌∙◌}
use Rattle.std.proofs.lemmas.Result.{err_from_is_err_and}
use Rattle.wasmprinter_spec.specs.Repeated.{items_at}
use Rattle.wasmprinter_bytes.specs.Items.{skip_at}
use Rattle.wasmprinter_spec.specs.Binary.Types.{subtype}
use Rattle.wasmprinter_bytes.proofs.ItemsInBytes.{skip_more, skip_none, skip_end, HasItems-skip, items_some, items_none}
use Rattle.wasmprinter_ops.proofs.composite_types.SubTypes.read_times.Goals as goal

pub loop-preserved : goal.loop-preserved
loop-preserved c = record {
  rest = skip_more subtype.parse c.args.count c.loop.counter c.loop.cursor _ c.read.new.cursor _ (omega arith) c.in_ok-read.ensures.reads c.loop.invariant.rest;
  end = omega (arith, c.in_ok-read.ensures.end, c.loop.invariant.end);
  forward = omega (arith, c.in_ok-read.ensures.forward, c.loop.invariant.forward);
}

pub invariant_of-result : goal.invariant_of-result
invariant_of-result c =
    HasItems-skip subtype.parse c.args.count c.fork-start.result c.loop.cursor
    (skip_end subtype.parse c.args.count c.loop.counter c.loop.cursor _ (omega arith) c.loop.invariant.rest)

pub returns : goal.returns
returns c = record {
  reads = ap (items_at subtype.parse c.args.count) (sym c.fork-start.ensures.same)
      ∙ items_some subtype.parse c.args.count c.fork-start.result c.loop.cursor
      (skip_end subtype.parse c.args.count c.loop.counter c.loop.cursor _ (omega arith) c.loop.invariant.rest);
  within = search rules;
  end = search rules;
  forward = search rules;
}

pub returns-in_err-read : goal.returns-in_err-read
returns-in_err-read c = record {
  reads =
      let p = err_from_is_err_and c.from_residual.result c.from_residual.ensures.1 in
      rw p.1
      (ap (items_at subtype.parse c.args.count) (sym c.fork-start.ensures.same)
      ∙ items_none subtype.parse c.args.count c.fork-start.result
      (skip_none subtype.parse c.args.count c.loop.counter c.loop.cursor (skip_at subtype.parse c.args.count c.fork-start.result) (omega arith) c.in_err-read.ensures.reads c.loop.invariant.rest));
  within = search rules;
  end = search rules;
  forward = search rules;
}
