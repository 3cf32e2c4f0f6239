use Rattle.std.proofs.Common.{Some, arith, sym, ◌∙◌, ap}
use Rattle.std.proofs.lemmas.Result.{err_from_is_err_and}
use Rattle.wasmprinter_spec.specs.Grammar.{Input}
use Rattle.wasmprinter_bytes.specs.Items.{skip_at}
use Rattle.wasmprinter_bytes.proofs.ItemsInBytes.{skip_more, skip_none, skip_end, HasItems-skip, vec_some, vec_none}
use Rattle.wasmprinter_custom.proofs.lazy_borrowing_items.ItemsIn.read.Goals as goal

pub loop-preserved : goal.loop-preserved
loop-preserved g c =
    skip_more g.T.ReadFrom.parse c.in_ok-count.count c.loop.counter (g.T.Source.ValueSource.input c.loop.source) _ (g.T.Source.ValueSource.input c.read.new.source) _ (omega arith) c.in_ok-read.ensures c.loop.invariant

pub invariant_of-result : goal.invariant_of-result
invariant_of-result g c =
    HasItems-skip g.T.ReadFrom.parse c.in_ok-count.count (g.T.Source.ValueSource.input c.again-start.result) (g.T.Source.ValueSource.input c.loop.source)
    (skip_end g.T.ReadFrom.parse c.in_ok-count.count c.loop.counter (g.T.Source.ValueSource.input c.loop.source) _ (omega arith) c.loop.invariant)

pub returns : goal.returns
returns g c =
    vec_some g.T.ReadFrom.parse (g.T.Source.ValueSource.input c.args.source.now) (g.T.Source.ValueSource.input c.again-start.result) (g.T.Source.ValueSource.input c.loop.source) c.in_ok-count.count
    (c.in_ok-count.ensures ∙ ap (λ (at : Input). Some (c.in_ok-count.count, at)) (sym c.again-start.ensures))
    (skip_end g.T.ReadFrom.parse c.in_ok-count.count c.loop.counter (g.T.Source.ValueSource.input c.loop.source) _ (omega arith) c.loop.invariant)

pub returns-in_err-read : goal.returns-in_err-read
returns-in_err-read g c =
    let p = err_from_is_err_and c.from_residual-in_err-read.result c.from_residual-in_err-read.ensures.1 in
    rw p.1
    (vec_none g.T.ReadFrom.parse (g.T.Source.ValueSource.input c.args.source.now) (g.T.Source.ValueSource.input c.again-start.result) c.in_ok-count.count
    (c.in_ok-count.ensures ∙ ap (λ (at : Input). Some (c.in_ok-count.count, at)) (sym c.again-start.ensures))
    (skip_none g.T.ReadFrom.parse c.in_ok-count.count c.loop.counter (g.T.Source.ValueSource.input c.loop.source) (skip_at g.T.ReadFrom.parse c.in_ok-count.count (g.T.Source.ValueSource.input c.again-start.result)) (omega arith) c.in_err-read.ensures c.loop.invariant))
