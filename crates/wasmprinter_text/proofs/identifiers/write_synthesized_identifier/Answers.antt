use Rattle.std.proofs.Common.{refl}
use Rattle.wasmprinter_text.proofs.Runs.{synthesized-text}
use Rattle.wasmprinter_text.proofs.identifiers.write_synthesized_identifier.Goals as goal

pub returns-clause-pieces : goal.returns-clause-pieces
returns-clause-pieces g c run =
    g.met.O.Output.piece_of _ _ _ refl (rw (synthesized-text c.args.group.now c.args.number c.ranges.number.fits run) c.write_numbered.ensures)
