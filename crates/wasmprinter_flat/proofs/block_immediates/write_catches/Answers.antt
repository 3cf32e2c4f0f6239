use Rattle.wasmprinter_flat.specs.Contexts.{setting_in, labels_around, labels_within}
use Rattle.wasmprinter_flat.proofs.Clauses.{catches-none, catches-next}
use Rattle.wasmprinter_flat.proofs.block_immediates.write_catches.Goals as goal

pub returns : goal.returns
returns g c =
    let s = setting_in g.S.Signatures.signature_at c.args.context.now in
    let none = catches-none s (labels_within c.args.context.now) (labels_around c.args.context.now) _ c.in-None.ensures.steps.0 in
    c.loop-clause.invariant _ (rw none (g.met.O.Output.no_piece _))

pub loop-clause-preserved : goal.loop-clause-preserved
loop-clause-preserved g c = λ t w.
    let s = setting_in g.S.Signatures.signature_at c.args.context.now in
    let step = catches-next s (labels_within c.args.context.now) (labels_around c.args.context.now) _ _ _ c.in-Some.ensures.steps in
    c.loop-clause.invariant t (rw step (g.met.O.Output.pieces_then _ _ _ _ _ c.write_clause.ensures w))
